pub mod Repeated
pub mod Served
pub mod StandingOf
