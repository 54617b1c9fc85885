mod SliceBinLemmas
mod BlankBinLemmas
mod PuttingLemmas
pub mod HeaderLemmas
mod AroundLemmas
mod PlannedLemmas
mod OneBlockLemmas
