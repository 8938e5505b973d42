pub mod Devices
pub mod Facade
pub mod Repeats
pub mod Runs
