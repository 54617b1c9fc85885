pub mod AcceptanceLemmas
mod CommandLemmas
mod ReadingLemmas
mod WorkedCommandLines
