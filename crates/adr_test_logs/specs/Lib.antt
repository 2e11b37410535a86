pub mod Client
pub mod Takes
