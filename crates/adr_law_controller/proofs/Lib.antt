pub mod Follows
pub mod Crashes
mod Steps
mod Chains
mod Working
