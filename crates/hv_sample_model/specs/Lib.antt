pub mod Blocks
pub mod IntraPrediction
pub mod InverseTransform
pub mod Quantisation
