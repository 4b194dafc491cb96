pub mod UniformFields
pub mod InField
pub mod FewCurrents
pub mod SmallEnds
pub mod Denominators
