pub mod BackLinks
pub mod Ends
pub mod Named
pub mod Slots
pub mod Youngest
pub mod Report
pub mod Seen
