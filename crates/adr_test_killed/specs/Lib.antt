pub mod Ended
pub mod Objects
