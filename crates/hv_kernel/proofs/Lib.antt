pub mod CostLemmas
pub mod FourLemmas
pub mod LaneLemmas
pub mod PairLemmas
pub mod RowLemmas
mod WorkedSums
