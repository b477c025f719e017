-- What the proofs of several functions use.
pub mod ClearedBehind
pub mod BlockedWalks
pub mod ClearedLocks
pub mod LocksLeft
pub mod FrontPasses
pub mod WantedOwners
pub mod BackPasses
pub mod FreeLines
