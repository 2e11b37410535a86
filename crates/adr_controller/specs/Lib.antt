pub mod Running
pub mod Able
pub mod Ended
pub mod Did
