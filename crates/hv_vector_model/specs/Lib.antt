pub mod VectorPrediction
pub mod Vectors
