pub mod FreeOrUsed
pub mod ResourceSums
pub mod CheckPasses
