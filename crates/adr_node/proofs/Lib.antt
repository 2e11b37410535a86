pub mod Mirrored
pub mod Writes
pub mod Started
pub mod Formatted
pub mod Made
pub mod Telling
pub mod Reading
