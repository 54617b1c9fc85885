pub mod LifeLemmas
pub mod NumberListLemmas
mod WorkedStructure
