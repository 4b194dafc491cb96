pub mod Linear
pub mod Parts
pub mod FieldVolts
