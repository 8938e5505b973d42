pub mod Offers
pub mod Checks
pub mod Queues
pub mod Headers
