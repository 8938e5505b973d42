pub mod Report
pub mod Texts
