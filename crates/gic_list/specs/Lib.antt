pub mod ListText
pub mod RightList
pub mod Made
