pub mod PurgedLocks
pub mod SettledResources
