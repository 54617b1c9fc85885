pub mod BesideLemmas
pub mod BlankBlockLemmas
pub mod BlankPictureLemmas
pub mod DecodedLemmas
pub mod LocalityLemmas
pub mod PictureLemmas
pub mod SeenLemmas
pub mod SeenNodeLemmas
pub mod WholeLocalityLemmas
pub mod WindowLemmas
mod WorkedBlankPictures
mod WorkedInterUnits
mod WorkedReconstructions
