-- What the proofs of several functions use.
pub mod OwnerLists
pub mod SearchMarks
pub mod SearchSteps
pub mod FirstVictim
