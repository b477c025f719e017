pub mod AreaFronts
pub mod PackedReads
