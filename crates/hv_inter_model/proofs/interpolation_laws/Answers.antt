use Rattle.hv_inter_model.proofs.InterpolationLemmas.{luma_taps_sum, chroma_taps_sum, luma_taps_mirrored, chroma_taps_mirrored}
use Rattle.hv_inter_model.proofs.interpolation_laws.Goals as goal

pub returns-clause-luma_sums : goal.returns-clause-luma_sums
returns-clause-luma_sums c = luma_taps_sum

pub returns-clause-chroma_sums : goal.returns-clause-chroma_sums
returns-clause-chroma_sums c = chroma_taps_sum

pub returns-clause-luma_mirrored : goal.returns-clause-luma_mirrored
returns-clause-luma_mirrored c = luma_taps_mirrored

pub returns-clause-chroma_mirrored : goal.returns-clause-chroma_mirrored
returns-clause-chroma_mirrored c = chroma_taps_mirrored
