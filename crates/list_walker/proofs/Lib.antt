pub mod ListsInARow
pub mod ResourceLocks
pub mod WalkerReads
