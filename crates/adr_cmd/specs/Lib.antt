pub mod Usage
pub mod OnDisk
pub mod Online
pub mod Obeys
