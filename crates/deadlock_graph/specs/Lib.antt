pub mod Promises
pub mod Marks
pub mod Holders
pub mod Hops
pub mod Links
