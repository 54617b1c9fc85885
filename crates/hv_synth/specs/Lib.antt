pub mod Generator
pub mod GeneratorLaws
pub mod Runs
