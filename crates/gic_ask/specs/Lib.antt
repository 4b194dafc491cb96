pub mod Contents
pub mod Outcome
pub mod Asks
pub mod Steps
pub mod Held
pub mod WordsRefused
pub mod Within
pub mod Network
