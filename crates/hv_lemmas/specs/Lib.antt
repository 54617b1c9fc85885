pub mod Booleans
pub mod Clipping
pub mod Lists
