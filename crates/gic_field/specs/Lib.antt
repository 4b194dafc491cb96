pub mod FieldText
pub mod RightField
pub mod Follows
pub mod Determines
pub mod Made
