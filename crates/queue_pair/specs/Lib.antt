pub mod Calls
pub mod Gates
pub mod Laws
pub mod Queue
pub mod Same
