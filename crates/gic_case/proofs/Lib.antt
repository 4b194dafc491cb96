pub mod Table
pub mod Earthings
pub mod NeutralNodes
pub mod Passed
pub mod Places
pub mod SoundWindings
