mod PuttingLemmas
mod ReadingLemmas
mod EscapingLemmas
pub mod WritingLemmas
mod FieldListLemmas
