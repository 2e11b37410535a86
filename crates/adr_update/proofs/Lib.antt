pub mod Found
pub mod Referred
pub mod Slots
pub mod Starts
