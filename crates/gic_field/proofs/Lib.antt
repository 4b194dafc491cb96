pub mod Fits
pub mod TrueVerdicts
pub mod FieldDetermined
