pub mod Examples
pub mod Lanes
pub mod Laws
pub mod Load
