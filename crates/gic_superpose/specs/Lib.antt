pub mod Sums
pub mod BaseFields
pub mod Superposed
pub mod Quantities
pub mod Pairs
pub mod Compact
pub mod Rows
pub mod Worked
