mod CodedBlockLemmas
pub mod CodedLeafLemmas
pub mod CodedUnitLemmas
mod FilledLineLemmas
pub mod GreatLeafLemmas
pub mod LeafLemmas
mod LineLemmas
pub mod PutRowLemmas
mod PutUnitLemmas
pub mod RebuiltLeafLemmas
pub mod RunLemmas
pub mod BlockLemmas
pub mod ChoiceLemmas
pub mod NextBlockLemmas
mod NoLevelLemmas
pub mod NodeLemmas
pub mod PictureLemmas
mod SumLemmas
pub mod UnitLemmas
