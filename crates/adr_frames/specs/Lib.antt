pub mod Frames
pub mod Hearing
pub mod Messages
