pub mod EndsOfRecords
pub mod OneRead
pub mod Turns
pub mod ReadRows
pub mod RowLaws
pub mod Steps
pub mod Prefixes
pub mod WideRows
