pub mod SliceDataLemmas
mod ContextLemmas
pub mod SliceEndLemmas
pub mod BlankUnitLemmas
mod WorkedSlices
