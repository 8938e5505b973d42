pub mod CompleteRuns
pub mod Digits
pub mod Endings
pub mod Explorations
pub mod RunOutcomes
