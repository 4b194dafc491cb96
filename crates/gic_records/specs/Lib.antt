pub mod Columns
pub mod Records
pub mod Reading
pub mod Rows
pub mod RowPass
pub mod Prefix
pub mod Wide
