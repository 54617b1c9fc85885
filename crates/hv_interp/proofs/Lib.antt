mod ColumnLemmas
mod EightSumLemmas
mod FractionLemmas
mod InterpolationLemmas
mod LaneLemmas
mod PairLemmas
pub mod PlaceLemmas
mod PredictionLemmas
mod RoundedLaneLemmas
mod RoundedTotalLemmas
mod SumLemmas
mod TotalLaneLemmas
mod WindowLemmas
