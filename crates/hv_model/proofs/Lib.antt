pub mod CodedUnitLemmas
pub mod PayloadLemmas
pub mod SliceLemmas
pub mod GroupLemmas
mod MembershipLemmas
mod OrderLemmas
mod ReferenceLemmas
mod KeepingLemmas
mod GroupShownLemmas
mod ListZeroLemmas
mod WrittenUnitLemmas
pub mod DecodedStreamLemmas
pub mod RoundTripLemmas
pub mod ChosenOffsetLemmas
pub mod IntraUnitLemmas
pub mod IntraStreamLemmas
pub mod InterUnitLemmas
pub mod InterStreamLemmas
pub mod PlannedLevelLemmas
pub mod PlannedSquareLemmas
pub mod IntraTreeLemmas
pub mod PlannedIntraLemmas
pub mod PlannedVectorLemmas
pub mod IntraGroupLemmas
pub mod InterGroupLemmas
mod BlankChoiceLemmas
pub mod ISliceLemmas
pub mod InterCaseLemmas
pub mod BlankCaseLemmas
pub mod BuiltCaseLemmas
pub mod InterPieceLemmas
mod WorkedSequences
mod WorkedGroups
mod WorkedStreams
mod WorkedRefusals
mod WorkedPictures
mod WorkedIntraStreams
mod WorkedInterStreams
mod WorkedInterGroups
