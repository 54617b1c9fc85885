pub mod Interpolation
pub mod InterpolationLaws
pub mod UnitVectors
