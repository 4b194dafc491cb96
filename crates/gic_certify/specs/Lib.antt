pub mod RightCertify
pub mod Follows
pub mod Made
