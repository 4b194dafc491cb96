pub mod TrueVerdicts
pub mod ScreenDetermined
