mod FilledLemmas
mod KeptLemmas
mod LineLemmas
mod PassLemmas
mod PlaneLemmas
mod SegmentLemmas
mod StepLemmas
mod ThresholdLemmas
