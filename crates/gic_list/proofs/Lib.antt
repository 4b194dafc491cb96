pub mod ElementNames
