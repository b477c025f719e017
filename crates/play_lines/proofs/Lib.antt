pub mod FedBytes
pub mod Examples
