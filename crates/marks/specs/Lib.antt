pub mod Telling
pub mod Promises
