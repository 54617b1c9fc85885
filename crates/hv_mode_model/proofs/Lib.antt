pub mod ChosenDecodedLemmas
pub mod DifferenceLemmas
pub mod DistanceLemmas
pub mod IntraAloneLemmas
pub mod LeastLemmas
pub mod NeighbourLemmas
pub mod NodeChoiceLemmas
pub mod ReferenceLemmas
pub mod SeenChoiceLemmas
pub mod ValidChoiceLemmas
mod WorkedChoices
mod WorkedCosts
mod WorkedInterChoices
mod WorkedPictures
