pub mod IntervalLemmas
pub mod ReadingLemmas
pub mod OracleLemmas
mod WorkedWords
mod WorkedStarts
