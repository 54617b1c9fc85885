pub mod AroundLemmas
pub mod EdgeLemmas
pub mod LendingLemmas
mod PlanLemmas
