pub mod Columns
pub mod Pass
pub mod Rules
pub mod StepFields
pub mod Steps
pub mod StormView
