pub mod Flags
pub mod LinkFields
