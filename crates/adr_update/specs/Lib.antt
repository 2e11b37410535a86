pub mod Key
pub mod Said
pub mod Referents
pub mod Sought
