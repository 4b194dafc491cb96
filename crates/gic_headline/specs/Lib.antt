pub mod Solved
pub mod Directions
pub mod Grounds
pub mod TrueReports
pub mod Headline
pub mod Program
pub mod Laws
