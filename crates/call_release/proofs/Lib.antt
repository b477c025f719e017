pub mod ReleasedLock
pub mod RestoredLock
