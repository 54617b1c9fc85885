pub mod LevelLemmas
pub mod NodeLemmas
