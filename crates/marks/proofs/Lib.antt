pub mod ToldLocks
pub mod MarkedWords
pub mod ToldQueues
pub mod NobodyTold
