pub mod Windows
pub mod Filters
pub mod Fractions
pub mod Lanes
