pub mod Facade
pub mod Lists
pub mod Numbers
pub mod Receivers
pub mod Senders
pub mod Sessions
pub mod Worlds
pub mod WorldLaws
