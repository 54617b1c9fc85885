-- The rules of the quantisers of chroma (8.6.1) and of the factors (8.6.3), computed over the tables.
use Rattle.std.proofs.Common.{◌≡◌, ℕ, ◌+◌, ◌-◌, ◌*◌, ◌/◌, ◌%◌, ◌^◌, Bool, true, refl, arith, nat_lt, ◌&&◌, slice_index_or}
use Rattle.std.specs.Prelude.{nat_eq}
use Rattle.std.proofs.lemmas.Bool.{and_parts, ltb-true}
use Rattle.std.proofs.lemmas.Bool.Decides.{nat_tests}
use Rattle.hv_lemmas.proofs.ComputedLemmas.{holds_below, holds_between}
use Rattle.hv_tables.specs.Quantisers.{chroma_qp, scales, factors}
use Rattle.hv_tables.specs.QuantiserLaws.{ChromaFallsBehind, ChromaGoesHalfAsFast, ChromaKeepsPace, ChromaStaysSixBehind, ScalesAreNearest, FactorsAreNearest}
use Rattle.hv_tables.specs.AngleLaws.{nearest}

abbrev is_one_less : ℕ → Bool
is_one_less qp = nat_eq (chroma_qp qp) (qp - 1)

abbrev is_half : ℕ → Bool
is_half qp = nat_eq (chroma_qp qp) ((qp + 32) / 2)

equal : (a b : ℕ) → nat_eq a b ≡ true → a ≡ b
equal a b h = grind (arith, nat_tests, h)

pub chroma_falls : ChromaFallsBehind
chroma_falls qp from to = equal _ _ (holds_between 30 34 is_one_less refl qp from (omega arith))

pub chroma_half : ChromaGoesHalfAsFast
chroma_half qp from to = equal _ _ (holds_between 34 44 is_half refl qp from (omega arith))

pub chroma_below : ChromaKeepsPace
chroma_below qp below = grind (arith, nat_tests, below)

pub chroma_above : ChromaStaysSixBehind
chroma_above qp above = grind (arith, nat_tests, above)

-- of a quantiser's rest by 6
abbrev is_scale : ℕ → Bool
is_scale rest =
    nat_lt ((2 * slice_index_or scales rest 0 - 1) ^ 6) (2 ^ (38 + rest)) &&
    nat_lt (2 ^ (38 + rest)) ((2 * slice_index_or scales rest 0 + 1) ^ 6)

abbrev is_factor : ℕ → Bool
is_factor rest = nat_eq (slice_index_or factors rest 0) (nearest (2 ^ 20) (slice_index_or scales rest 0))

pub scales_nearest : ScalesAreNearest
scales_nearest qp =
    let parts = and_parts _ _ (holds_below 6 is_scale refl (qp % 6) (omega arith)) in
    (ltb-true _ _ parts.0, ltb-true _ _ parts.1)

pub factors_nearest : FactorsAreNearest
factors_nearest qp = equal _ _ (holds_below 6 is_factor refl (qp % 6) (omega arith))
