pub mod Coding
pub mod Sets
pub mod Structure
pub mod Groups
pub mod Orders
