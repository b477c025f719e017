pub mod Basics
pub mod Numerals
pub mod FirstSpace
