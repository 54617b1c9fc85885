pub mod ErrorLemmas
pub mod NodeCostLemmas
pub mod BlankLemmas
pub mod CopyLemmas
pub mod FoundNodeLemmas
pub mod FrameLemmas
pub mod NodeFrameLemmas
pub mod ChosenUnitLemmas
pub mod LeafLemmas
pub mod ModeLemmas
pub mod ScoreLemmas
pub mod SeenErrorLemmas
mod BestLemmas
mod CandidateLemmas
mod CtbLemmas
mod DecidedLemmas
mod FoundLemmas
mod LimitLemmas
mod SplitBelowLemmas
mod SplitBinLemmas
mod SplitCostLemmas
mod SplitErrorLemmas
mod SplitLemmas
mod StillLemmas
mod TriedLemmas
mod WonLemmas
mod InterChoiceLemmas
mod InterLeafLemmas
mod InterLemmas
mod InterUnitLemmas
mod PictureLemmas
