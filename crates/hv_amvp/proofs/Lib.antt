mod OwnLemmas
mod ScalingLemmas
