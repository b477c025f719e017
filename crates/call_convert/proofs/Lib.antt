pub mod AskingLock
pub mod ConversionWords
pub mod ConversionWays
