pub mod Facade
pub mod Frames
pub mod Sends
pub mod Whole
