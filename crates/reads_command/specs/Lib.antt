pub mod Answers
pub mod Examples
pub mod Replies
pub mod Steps
pub mod Texts
pub mod Lines
pub mod Report
