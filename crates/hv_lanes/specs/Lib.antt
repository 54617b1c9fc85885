pub mod Passes
pub mod Lanes
pub mod Ranges
