pub mod Floods
pub mod Lookups
pub mod PermittedSteps
pub mod Rings
pub mod StoreLemmas
pub mod Facade
