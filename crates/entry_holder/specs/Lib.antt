pub mod Promises
pub mod Holders
