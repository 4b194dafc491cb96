pub mod Columns
pub mod Items
pub mod ItemsOf
pub mod Pass
pub mod Rules
pub mod SwitchingsView
pub mod Epochs
