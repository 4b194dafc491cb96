pub mod Fields
pub mod LineVolts
pub mod Voltage
pub mod Linear
