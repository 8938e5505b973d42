pub mod Causes
pub mod MemorySink
pub mod MemorySource
pub mod Plan
pub mod Std
pub mod Streams
pub mod Whole
pub mod Gates
