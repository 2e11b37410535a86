mod Figures
pub mod Numbers
pub mod Floats
mod Texts
mod Attributes
mod Ordered
mod Depths
mod ReadBack
mod Told
pub mod Allowed
