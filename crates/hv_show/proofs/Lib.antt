mod OffsetLemmas
