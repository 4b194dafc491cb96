pub mod RecheckText
pub mod Accepted
pub mod Told
pub mod RightRecheck
pub mod Follows
pub mod Determines
pub mod Made
