pub mod ImageWords
pub mod ExclusiveLock
pub mod HolderReturns
