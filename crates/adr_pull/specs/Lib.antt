pub mod Exchange
pub mod Fetch
pub mod Told
pub mod Sending
pub mod Worked
pub mod Counted
