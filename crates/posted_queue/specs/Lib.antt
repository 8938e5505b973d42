pub mod Flight
pub mod Landing
pub mod Laws
pub mod Rows
pub mod Counts
pub mod Levels
pub mod Waiting
pub mod Tickets
