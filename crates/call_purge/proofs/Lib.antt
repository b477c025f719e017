pub mod NumbersLeft
pub mod LockCounts
pub mod OneLock
pub mod ClientLocks
pub mod MarkedResources
pub mod WholePurge
