pub mod Counts
pub mod LinesSoFar
pub mod NamesMatch
pub mod Scripts
pub mod Sound
