-- What the proofs of several functions use, here and in the crates above.
pub mod SameWalks
pub mod WrittenLinks
pub mod LinkedLines
pub mod AllLines
