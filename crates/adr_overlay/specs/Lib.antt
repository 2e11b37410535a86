pub mod Cursors
pub mod Presence
pub mod Standing
pub mod Overlay
