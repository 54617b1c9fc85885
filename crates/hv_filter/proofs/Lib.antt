mod ChoiceLemmas
pub mod FilterLemmas
mod JoinLemmas
mod SquareLemmas
