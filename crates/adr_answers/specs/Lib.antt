pub mod Line
pub mod Printable
pub mod Laws
pub mod Alone
pub mod Whole
pub mod Room
