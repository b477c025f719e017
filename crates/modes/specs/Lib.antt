pub mod Modes
pub mod Sets
pub mod Made
