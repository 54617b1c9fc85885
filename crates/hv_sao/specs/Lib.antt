pub mod Areas
pub mod Bands
pub mod Components
pub mod Decisions
pub mod Planes
pub mod Prices
pub mod Rows
pub mod Tallies
