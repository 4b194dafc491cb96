pub mod Digits
pub mod Injective
pub mod Words
pub mod Sizes
pub mod Joined
