pub mod BaseRows
pub mod Superposed
pub mod Table
pub mod BaseFields
