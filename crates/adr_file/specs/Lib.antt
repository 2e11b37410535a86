pub mod Device
pub mod Known
pub mod Laws
pub mod State
