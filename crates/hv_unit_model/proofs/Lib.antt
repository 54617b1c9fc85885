pub mod AroundLemmas
pub mod BlankLemmas
pub mod ContextLemmas
pub mod FlagLemmas
pub mod GeometryLemmas
pub mod GivenLemmas
pub mod ModeLemmas
pub mod MotionLemmas
pub mod OffsetLemmas
pub mod ReadOffsetLemmas
pub mod ReadUnitLemmas
pub mod SeenBinsLemmas
pub mod SignLemmas
pub mod SquareLemmas
pub mod TransformLemmas
pub mod UnitLemmas
mod WorkedAround
mod WorkedModes
mod WorkedOffsets
mod WorkedPictures
mod WorkedRefusals
mod WorkedSlices
mod WorkedUnits
