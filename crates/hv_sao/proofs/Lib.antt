mod AddLemmas
pub mod AreaLemmas
mod BandLemmas
mod CandidateLemmas
mod ChosenLemmas
pub mod CostLemmas
mod EdgeLemmas
mod GrowthLemmas
mod KeyLemmas
mod NumberLemmas
mod PictureLemmas
pub mod PlaneLemmas
mod PriceLemmas
mod RowLemmas
mod SampleLemmas
pub mod TallyLemmas
mod ValidityLemmas
