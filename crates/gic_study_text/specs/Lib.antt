pub mod StudyText
pub mod Given
pub mod Determines
