pub mod Examples
pub mod Outcomes
pub mod Schedules
pub mod States
pub mod Texts
