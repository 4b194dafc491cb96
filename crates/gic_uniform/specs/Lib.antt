pub mod Uniform
pub mod Ready
pub mod Solving
