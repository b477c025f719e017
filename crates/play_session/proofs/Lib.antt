pub mod FreshTables
pub mod Sessions
pub mod Chunks
