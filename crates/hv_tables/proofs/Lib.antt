pub mod ComputedLemmas
pub mod ContextTableLemmas
pub mod ArithmeticTableLemmas
pub mod AngleLemmas
pub mod QuantiserLemmas
pub mod MatrixLemmas
mod WorkedTables
