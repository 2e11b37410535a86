pub mod Entries
pub mod Platter
