pub mod ConfigurationLemmas
pub mod GroupLemmas
pub mod SampleLemmas
pub mod OutsideLemmas
pub mod VideoLemmas
mod WorkedVideo
