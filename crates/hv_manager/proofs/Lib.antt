pub mod StructureLemmas
pub mod CountLemmas
