pub mod Drive
pub mod Near
pub mod Ends
pub mod Certain
pub mod Round
pub mod Together
pub mod Solved
pub mod Laws
