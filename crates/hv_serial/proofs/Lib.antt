mod MoveLemmas
pub mod GrowthLemmas
mod StreamLemmas
pub mod ReadingLemmas
mod PictureLemmas
pub mod ProgressLemmas
mod StepLemmas
mod UnitLemmas
mod OutputLemmas
mod GreyLemmas
mod BlankGroupLemmas
mod CropLemmas
mod PaddedPictureLemmas
mod SlotLemmas
mod FrameLemmas
mod DistanceLemmas
mod GivenPictureLemmas
mod GroupPictureLemmas
mod CodedBlockLemmas
pub mod EndLemmas
