pub mod Head
pub mod Body
pub mod Logged
pub mod Woken
pub mod HeadLaws
pub mod BodyLaws
