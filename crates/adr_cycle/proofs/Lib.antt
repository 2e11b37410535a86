pub mod Firsts
pub mod Numbered
pub mod Choosing
pub mod Lefts
pub mod Cutting
pub mod Replies
mod Deciding
mod Standings
mod Items
