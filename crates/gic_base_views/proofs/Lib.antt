pub mod RightViews
pub mod Bases
pub mod Written
pub mod Certified
