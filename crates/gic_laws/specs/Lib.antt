pub mod Orientation
pub mod Losses
pub mod Printed
pub mod Dwells
pub mod Earthings
