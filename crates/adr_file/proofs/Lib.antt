pub mod AsBytes
pub mod Behind
pub mod Filled
pub mod Known
pub mod Turns
