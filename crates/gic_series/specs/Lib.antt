pub mod Rows
pub mod SeriesText
pub mod RightSeries
pub mod Made
pub mod Determines
