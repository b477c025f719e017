pub mod ChainWalk
pub mod WalkStarts
