pub mod Answers
pub mod Landings
pub mod Laws
