pub mod VoltsText
pub mod RightVolts
pub mod Determines
pub mod Made
