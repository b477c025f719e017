pub mod NumberRuns
pub mod Spans
pub mod FourBytes
pub mod SlotParts
pub mod SlotStores
pub mod StateNames
