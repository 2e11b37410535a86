pub mod Candidates
pub mod ReplyRefused
pub mod RowsTaken
