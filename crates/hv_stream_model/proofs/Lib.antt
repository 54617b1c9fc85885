pub mod DigitLemmas
pub mod BitLemmas
pub mod ZeroLemmas
pub mod FilledBitLemmas
pub mod ScriptLemmas
pub mod FieldLemmas
pub mod UnitLemmas
pub mod StreamLemmas
pub mod HeaderLemmas
mod SliceHeaderLemmas
mod SliceStructureLemmas
mod DeterminedLemmas
mod WorkedUnits
mod WorkedParameters
mod WorkedSliceHeaders
