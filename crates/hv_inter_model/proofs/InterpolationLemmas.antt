-- The relations of the taps of interpolation (8.5.3.3.3), each computed at once.
use Rattle.std.proofs.Common.{refl}
use Rattle.hv_inter_model.specs.InterpolationLaws.{LumaTapsSumTo64, ChromaTapsSumTo64, LumaTapsAreMirrored, ChromaTapsAreMirrored}

pub luma_taps_sum : LumaTapsSumTo64
luma_taps_sum = refl

pub chroma_taps_sum : ChromaTapsSumTo64
chroma_taps_sum = refl

pub luma_taps_mirrored : LumaTapsAreMirrored
luma_taps_mirrored = refl

pub chroma_taps_mirrored : ChromaTapsAreMirrored
chroma_taps_mirrored = refl
