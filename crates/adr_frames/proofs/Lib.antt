pub mod ReceivedLemmas
pub mod Framing
pub mod FrameLaws
