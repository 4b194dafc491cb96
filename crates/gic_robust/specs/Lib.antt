pub mod Steps
pub mod RobustText
pub mod RightRobust
pub mod Follows
pub mod Resolution
pub mod Determines
pub mod Made
