pub mod ElementList
pub mod InForce
pub mod Weights
pub mod WeightParts
pub mod Order
pub mod Terminals
pub mod Degrees
