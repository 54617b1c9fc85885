pub mod FrontLemmas
pub mod GeneratorLemmas
pub mod PatternLemmas
pub mod RunLemmas
mod WorkedGenerator
