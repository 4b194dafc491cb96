pub mod InTurn
pub mod AllNamed
pub mod Told
pub mod OfWords
