pub mod Ended
pub mod Ran
pub mod Written
pub mod Kept
pub mod Reached
pub mod Laws
