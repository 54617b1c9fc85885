pub mod NumberLemmas
pub mod BoundLemmas
pub mod CutLemmas
pub mod StateLemmas
pub mod StartLemmas
pub mod StandingLemmas
pub mod WordLemmas
