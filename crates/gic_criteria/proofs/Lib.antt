pub mod Determined
pub mod Judged
pub mod Squares
pub mod Worsts
