pub mod Linear
pub mod Exists
pub mod Worked
