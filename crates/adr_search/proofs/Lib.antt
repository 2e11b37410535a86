pub mod Climbing
pub mod Counting
pub mod Figures
pub mod First
pub mod Judging
pub mod Placed
pub mod Tables
pub mod Walking
