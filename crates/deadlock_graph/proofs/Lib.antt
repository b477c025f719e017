-- What the proofs of several functions use, here and in the crates above.
pub mod SameVictim
pub mod SeenChains
pub mod LockWords
pub mod LineAhead
pub mod NearestLocks
pub mod HolderWalks
pub mod LinkLaws
pub mod Marks
