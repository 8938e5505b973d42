pub mod BlockedAnswers
pub mod Reports
pub mod Texts
pub mod TrueLogs
