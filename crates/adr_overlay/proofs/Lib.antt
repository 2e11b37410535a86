mod All
mod Births
mod Counted
mod Holding
mod Lengths
mod Looked
mod Objects
mod Rising
mod Tally
mod Telling
pub mod Standings
