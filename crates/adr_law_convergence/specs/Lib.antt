pub mod CutShort
pub mod Rounds
