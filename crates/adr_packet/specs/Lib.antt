pub mod Parts
pub mod Requests
pub mod Replies
pub mod Refusals
pub mod Worked
