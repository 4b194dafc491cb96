pub mod ItemsWithin
pub mod NamedItems
pub mod PassLaws
pub mod InForce
pub mod Runs
