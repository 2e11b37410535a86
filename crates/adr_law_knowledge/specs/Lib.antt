pub mod Rises
pub mod Known
pub mod Grows
pub mod Stands
