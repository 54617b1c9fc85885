pub mod Neighbours
pub mod Squares
