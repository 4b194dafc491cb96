pub mod Padding
pub mod Parts
pub mod RefusalLaws
pub mod Each
