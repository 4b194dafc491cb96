pub mod Name
pub mod Causes
pub mod Pieces
pub mod Writes
pub mod Memory
pub mod Refusals
pub mod Passes
