pub mod Plans
mod Planning
pub mod Orders
