pub mod EndOfSession
pub mod NextFrame
pub mod KeptItems
pub mod StreamEnds
pub mod StreamsByPlan
