mod CountsOfNetworks
mod DeclaredNetworks
pub mod Facade
mod HavePorts
mod LaneCounts
mod Networks
mod PermittedSteps
mod PlainFabrics
mod RefusedAgain
mod RefusedSteps
mod SameClusters
mod StepsMade
mod StepsOfNetworks
