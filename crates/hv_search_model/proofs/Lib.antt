pub mod ReachLemmas
mod WorkedMotion
mod WorkedScores
