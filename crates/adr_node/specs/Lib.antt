pub mod Lines
pub mod Seen
pub mod Begins
pub mod Looks
pub mod Formats
pub mod Makes
