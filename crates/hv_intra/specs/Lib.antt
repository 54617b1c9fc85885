pub mod Lines
pub mod Blocks
pub mod Lanes
pub mod References
pub mod StraightModes
pub mod Turns
