pub mod Cuts
pub mod LastRows
pub mod Follows
pub mod PassLaws
pub mod Rising
pub mod StepRows
