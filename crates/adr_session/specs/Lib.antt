pub mod Lines
pub mod Talk
pub mod Told
pub mod Worked
pub mod Made
pub mod Turns
pub mod Said
