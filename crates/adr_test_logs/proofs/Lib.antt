mod Following
mod Writing
mod Clients
