pub mod Rounding
pub mod Encloses
pub mod Ends
pub mod Roots
pub mod Sums
