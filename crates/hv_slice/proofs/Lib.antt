mod SideLemmas
mod SlicePartLemmas
mod SetEntryLemmas
