pub mod Output
pub mod Statuses
pub mod Texts
