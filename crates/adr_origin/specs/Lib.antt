pub mod Telling
pub mod Parts
pub mod GivenRows
pub mod NextRows
pub mod LiveParts
pub mod LinkParts
