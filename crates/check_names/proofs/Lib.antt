pub mod RunTests
pub mod ComparedNames
pub mod NameNumbers
pub mod NewNames
