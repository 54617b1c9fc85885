pub mod UnitBinLemmas
pub mod BinarizationLemmas
pub mod LevelLemmas
pub mod ScanLemmas
pub mod LastPositionLemmas
pub mod SubBlockLemmas
pub mod ResidualLemmas
pub mod RangeLemmas
pub mod ContextLemmas
mod WorkedResiduals
