pub mod Classes
pub mod Facade
pub mod Floods
pub mod NameNumbers
pub mod Soundness
