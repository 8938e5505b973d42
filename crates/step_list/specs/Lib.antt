pub mod Compact
pub mod StepLists
