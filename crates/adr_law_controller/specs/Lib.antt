pub mod Called
pub mod Behind
pub mod Laws
pub mod Keeping
pub mod Worked
