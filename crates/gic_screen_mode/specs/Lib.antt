pub mod ScreenText
pub mod RightScreen
pub mod Follows
pub mod Determines
pub mod Made
