pub mod FirstLocks
pub mod ListedOwners
pub mod NumberedLocks
pub mod NumberedHolders
