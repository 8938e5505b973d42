pub mod Areas
pub mod Facade
pub mod Room
pub mod SpotLemmas
pub mod Within
