pub mod Loops
pub mod Inverse
