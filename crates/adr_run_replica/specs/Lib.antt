pub mod Past
pub mod Pending
pub mod Told
pub mod Held
pub mod Settled
pub mod Led
pub mod Put
pub mod Planned
