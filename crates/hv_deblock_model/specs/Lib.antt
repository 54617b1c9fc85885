pub mod CodedSquares
pub mod Deblocking
pub mod EdgeFilters
pub mod EdgeStrength
pub mod FlatPictures
pub mod InLoopFilters
pub mod SquaresInside
pub mod TreeSquares
