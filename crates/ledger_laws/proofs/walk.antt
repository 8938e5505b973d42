-- One walk over the steps: what each step of a pair is for one of its lanes, shown once. A law is a match over `Turn`
-- and names no pair.
pub mod Sight
pub mod News
pub mod Turn
pub mod Cases
pub mod Tells
pub mod TurnAt
pub mod SideTurns
pub mod SendingTurns
pub mod ReceivingTurns
pub mod LandingTurns
pub mod Of
pub mod Logs
