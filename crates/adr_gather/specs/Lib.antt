pub mod Held
pub mod Taken
pub mod Gathered
pub mod Laws
