pub mod Found
pub mod ShutOff
