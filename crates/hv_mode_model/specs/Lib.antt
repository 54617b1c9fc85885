pub mod Differences
pub mod DistanceLaws
pub mod LeastLaws
pub mod ModeDecision
pub mod ModeLaws
pub mod NeighbourLaws
pub mod NodeLaws
