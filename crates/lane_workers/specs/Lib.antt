pub mod Choices
pub mod Passes
pub mod Rounds
