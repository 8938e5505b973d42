pub mod Facade
pub mod Repeats
