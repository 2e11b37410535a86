pub mod Place
pub mod Shelf
pub mod Shelves
