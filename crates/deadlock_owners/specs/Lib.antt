pub mod OwnerLists
pub mod OwnerNumbers
