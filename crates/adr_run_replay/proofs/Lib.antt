pub mod GivenLemmas
pub mod ShowLemmas
pub mod Counting
pub mod Generated
