mod OneByte
pub mod PlanSteps
mod Queues
