pub mod SumLemmas
mod WorkedSamples
mod WorkedPredictions
