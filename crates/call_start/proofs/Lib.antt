pub mod UpwardLinks
pub mod StartedWords
pub mod StartSteps
