pub mod StateLines
pub mod CheckDetermined
