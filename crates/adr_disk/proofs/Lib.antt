pub mod Moments
pub mod Writes
pub mod Steps
pub mod Outcomes
pub mod Bytes
pub mod Honest
pub mod Told
pub mod Torn
