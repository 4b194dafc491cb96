pub mod CheckText
pub mod RightCheck
pub mod Determines
pub mod Made
