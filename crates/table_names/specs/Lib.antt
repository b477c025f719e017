pub mod Names
pub mod Promises
