pub mod ListCore
pub mod FilledList
pub mod ListReturns
