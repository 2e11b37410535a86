pub mod Rooms
pub mod Offered
pub mod Short
pub mod Bytes
pub mod Cut
pub mod Fitting
