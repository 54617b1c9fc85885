pub mod Blocks
pub mod ContextTables
pub mod Counts
pub mod Earlier
pub mod Levels
pub mod Putting
pub mod Scans
