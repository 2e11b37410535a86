pub mod Marks
pub mod Refusal
pub mod Rows
pub mod Known
pub mod Alive
pub mod Core
pub mod Drafts
pub mod Gap
