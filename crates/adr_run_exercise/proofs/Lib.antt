pub mod Ranges
pub mod Draws
mod Numerals
mod Allowed
mod Followed
