pub mod Text
pub mod Worked
pub mod Exportable
pub mod Laws
