mod Served
pub mod Spaced
pub mod Explained
pub mod MetNeeds
pub mod Ended
pub mod Statuses
pub mod EachMode
pub mod Certified
pub mod Accepting
pub mod AskedSound
pub mod AskedStorms
mod Attached
