pub mod HolderWalks
pub mod ResourceQueues
