mod JoinedLemmas
pub mod OffLemmas
pub mod CostLemmas
mod WorkedBlocks
mod WorkedOffsets
mod WorkedChoices
mod WorkedPictures
