mod OffsetLemmas
mod SideLemmas
