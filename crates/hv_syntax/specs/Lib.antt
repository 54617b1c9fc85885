pub mod Blocks
pub mod Counts
pub mod Levels
pub mod Parts
