pub mod Digits
pub mod BufferWrites
pub mod Examples
