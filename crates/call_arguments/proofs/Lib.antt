pub mod OwnLock
