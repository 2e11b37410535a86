pub mod Slots
pub mod Hints
pub mod Names
pub mod Parent
pub mod Children
pub mod Edits
pub mod Tree
