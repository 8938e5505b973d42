pub mod Begins
pub mod LookAnswers
pub mod Refusals
