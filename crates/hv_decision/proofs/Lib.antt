pub mod ListLemmas
pub mod LifeLemmas
pub mod CodingLemmas
pub mod EachStructureLemmas
pub mod SetLemmas
pub mod TableLemmas
pub mod OrderLemmas
