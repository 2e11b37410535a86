pub mod Few
pub mod Verbs
