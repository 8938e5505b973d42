pub mod Answers
pub mod Replies
pub mod Text
pub mod Traffic
