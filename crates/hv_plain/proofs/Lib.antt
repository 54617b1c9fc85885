pub mod BitPlaceLemmas
pub mod PlainLemmas
pub mod NumberLemmas
pub mod SignedLemmas
mod FieldStepLemmas
