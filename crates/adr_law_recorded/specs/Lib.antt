pub mod Typed
pub mod Ranged
pub mod InRange
pub mod Laws
