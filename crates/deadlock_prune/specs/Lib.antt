pub mod Clearing
pub mod FreeLines
pub mod BothEnds
