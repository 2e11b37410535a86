pub mod Typing
pub mod Asking
