pub mod Examples
pub mod Fronts
pub mod Numbers
pub mod Receiver
pub mod Resumed
pub mod Sender
pub mod World
