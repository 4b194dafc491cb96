pub mod Left
pub mod Prefixes
pub mod MonitorsDetermined
pub mod PartsDetermined
pub mod StudyDetermined
