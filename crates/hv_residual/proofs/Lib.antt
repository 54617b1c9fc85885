mod BinLemmas
mod ContextLemmas
mod CountLemmas
mod EarlierLemmas
mod FlagLemmas
mod GatheringLemmas
mod LastLemmas
pub mod PuttingLemmas
mod RemainingLemmas
mod ResidualLemmas
mod ScanLemmas
mod SignificanceLemmas
mod SmallLevelLemmas
