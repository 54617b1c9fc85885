pub mod Contexts
pub mod CodeWord
pub mod Oracle
pub mod ReadingBack
pub mod IntervalLaws
