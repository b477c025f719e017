pub mod NameResource
pub mod NewLock
pub mod AcceptedRequest
