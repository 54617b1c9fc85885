mod ReportLemmas
mod ConclusionLemmas
mod InputLemmas
