pub mod Slots
pub mod Back
pub mod Deaths
pub mod Table
pub mod Locals
pub mod Lasts
