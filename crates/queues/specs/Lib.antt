pub mod Holders
pub mod Decisions
pub mod Promises
