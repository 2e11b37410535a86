mod Exchanged
mod Cycling
mod Taking
mod Turned
mod Going
mod Partners
mod Unsaid
mod Saying
mod Sent
mod WorkedCycle
pub mod Retold
