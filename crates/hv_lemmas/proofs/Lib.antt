pub mod BooleanLemmas
pub mod ComparisonLemmas
pub mod ComputedLemmas
pub mod ListLemmas
pub mod OptionLemmas
pub mod SignedLemmas
