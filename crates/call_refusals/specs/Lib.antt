pub mod Promises
pub mod Rests
