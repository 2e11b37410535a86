pub mod PartLaws
pub mod RequestLaws
pub mod ReplyLaws
pub mod RefusalLaws
pub mod ItemSteps
