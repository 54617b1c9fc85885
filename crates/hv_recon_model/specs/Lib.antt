pub mod BlankLaws
pub mod LocalityLaws
pub mod Reconstruction
pub mod ReconstructionLaws
pub mod SeenSamples
