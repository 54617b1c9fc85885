pub mod Blocks
pub mod Costs
pub mod FlatPictures
pub mod JoinedLaws
pub mod OffLaws
pub mod OffsetBins
pub mod OffsetDecision
pub mod SampleAdaptiveOffset
