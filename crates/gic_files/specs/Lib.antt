pub mod Files
pub mod Fetches
pub mod Shelf
