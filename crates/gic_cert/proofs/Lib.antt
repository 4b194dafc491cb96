mod Certified
mod Columns
mod Conductances
mod CutLaws
mod Determined
mod NodesWritten
mod Numbers
mod Passing
mod Placed
mod ReadLaws
mod RowColumns
mod Settled
mod Steps
mod TextBack
pub mod Places
