pub mod Archived
pub mod Parts
pub mod Found
