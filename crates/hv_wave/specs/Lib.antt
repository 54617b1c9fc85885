pub mod Segments
pub mod Rows
