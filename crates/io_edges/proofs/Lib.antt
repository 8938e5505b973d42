pub mod ReadBytes
pub mod WrittenBytes
