pub mod ModeNumbers
pub mod HeldModes
pub mod QueueReads
pub mod Decisions
pub mod GrantTurns
pub mod ResourceRecord
pub mod StateAfter
pub mod ConversionInPlace
