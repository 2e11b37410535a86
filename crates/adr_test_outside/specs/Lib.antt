pub mod Memory
pub mod Connections
