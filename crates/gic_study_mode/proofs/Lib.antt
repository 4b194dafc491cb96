pub mod SeenSteps
pub mod EnclosedPeaks
pub mod TrueVerdicts
pub mod PeakCells
pub mod PeaksOfStudies
pub mod AcceptedStorms
pub mod RightStudies
pub mod Seats
