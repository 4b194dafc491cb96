pub mod Guesses
pub mod Sweep
pub mod ResidualEnds
pub mod Passes
pub mod Residuals
