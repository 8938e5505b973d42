pub mod Examples
pub mod Lane
pub mod LaneSteps
pub mod Law
pub mod Ring
pub mod Steps
pub mod Tests
