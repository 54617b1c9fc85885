pub mod Around
pub mod BlockEdges
pub mod Edges
pub mod Lending
pub mod Plans
pub mod Samples
