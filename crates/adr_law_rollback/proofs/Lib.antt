pub mod Refusing
pub mod Finding
pub mod Placing
pub mod Calls
pub mod Cycling
pub mod Stepping
pub mod Shutting
