pub mod QueueWalks
