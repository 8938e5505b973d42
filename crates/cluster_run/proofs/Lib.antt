pub mod Facade
mod FramesOfSession
pub mod KnownPairs
mod LaneEnds
pub mod LaneLists
mod PlacesOfLanes
mod RecordFits
pub mod RunSoFar
mod Streams
mod TrafficByLane
mod TrafficCounts
mod TrafficLanes
