pub mod SegmentLemmas
pub mod StageLemmas
pub mod ReadyLemmas
pub mod StepLemmas
pub mod CompletionLemmas
