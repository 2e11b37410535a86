mod Steps
pub mod Staging
pub mod Commits
pub mod Fitting
pub mod Prepared
mod Bounded
pub mod Begun
pub mod Starts
pub mod Found
