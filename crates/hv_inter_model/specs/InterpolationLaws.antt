-- Relations of the taps of interpolation (8.5.3.3.3) among themselves.
use Rattle.std.specs.Prelude.{◌≡◌, List, map, reverse, replicate, drop, ℤ, pos}
use Rattle.hv_inter_model.specs.Interpolation.{luma_taps, chroma_taps, weighted}

-- the taps of each of so many fractions sum to 64
abbrev pub tap_sums : List (List ℤ) → List ℤ
tap_sums rows = map (λ taps. weighted taps (λ _. pos 1)) rows

abbrev pub LumaTapsSumTo64 : Type 0
LumaTapsSumTo64 = tap_sums luma_taps ≡ replicate 4 (pos 64)

abbrev pub ChromaTapsSumTo64 : Type 0
ChromaTapsSumTo64 = tap_sums chroma_taps ≡ replicate 8 (pos 64)

-- The fractions behind the whole sample backwards, and the taps of each backwards, are the same:
-- what lies at a fraction before the next whole sample has the taps of this fraction, mirrored.
abbrev pub backwards : List (List ℤ) → List (List ℤ)
backwards rows = map reverse (reverse rows)

abbrev pub LumaTapsAreMirrored : Type 0
LumaTapsAreMirrored = backwards (drop 1 luma_taps) ≡ drop 1 luma_taps

abbrev pub ChromaTapsAreMirrored : Type 0
ChromaTapsAreMirrored = backwards (drop 1 chroma_taps) ≡ drop 1 chroma_taps
