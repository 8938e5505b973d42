pub mod Calls
pub mod Fresh
pub mod LaneView
pub mod Parts
