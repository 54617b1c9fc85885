mod FlatLemmas
pub mod LineLemmas
pub mod InsideLemmas
mod WorkedDeblocking
mod WorkedEdges
mod WorkedStrengths
mod WorkedTrees
