pub mod Answers
pub mod InPlace
pub mod Laws
pub mod Moves
pub mod Parts
pub mod StandsFor
pub mod Turns
