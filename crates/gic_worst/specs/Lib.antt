pub mod Rows
pub mod RightRows
pub mod Setting
pub mod ScreenLines
pub mod Screening
