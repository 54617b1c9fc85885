-- The choices that are applied are valid.
use Rattle.std.proofs.Common.{◌<◌, ℕ, zero, suc, [], ◌∷◌, All, pos, negsuc, slice_index_or, arith}
use Rattle.std.proofs.lemmas.List.Elements.{All-cons, All-nil}
use Rattle.std.proofs.lemmas.Int.{ints}
use Rattle.hv_plan.specs.declared.offsets.SaoKind.TheVariants.{Band, Edge}
use Rattle.hv_plan.specs.declared.offsets.SaoParam.{SaoParam}
use Rattle.hv_filter_model.specs.SampleAdaptiveOffset.{IsBetween, least_offset, most_offset, IsValidParam}

pub all_of_four : (a b c d : SaoParam) → IsValidParam a → IsValidParam b → IsValidParam c →
    IsValidParam d → All IsValidParam (a ∷ b ∷ c ∷ d ∷ [])
all_of_four a b c d p q r s =
    All-cons IsValidParam a (b ∷ c ∷ d ∷ []) p
    (All-cons IsValidParam b (c ∷ d ∷ []) q
    (All-cons IsValidParam c (d ∷ []) r (All-cons IsValidParam d [] s (All-nil IsValidParam))))

pub edge_between : (class i : ℕ) → i < 4 → IsBetween (least_offset (Edge class) i) (most_offset (Edge class) i)
    (slice_index_or (pos 2 ∷ pos 1 ∷ negsuc 0 ∷ negsuc 2 ∷ []) i (pos 0))
edge_between class zero p = record { least = omega (arith, ints); most = omega (arith, ints) }
edge_between class (suc zero) p = record { least = omega (arith, ints); most = omega (arith, ints) }
edge_between class (suc (suc zero)) p = record { least = omega (arith, ints); most = omega (arith, ints) }
edge_between class (suc (suc (suc zero))) p = record { least = omega (arith, ints); most = omega (arith, ints) }
edge_between class (suc (suc (suc (suc i)))) p = absurd (omega arith)

pub band_between : (position i : ℕ) → i < 4 → IsBetween (least_offset (Band position) i) (most_offset (Band position) i)
    (slice_index_or (pos 3 ∷ negsuc 1 ∷ pos 1 ∷ negsuc 3 ∷ []) i (pos 0))
band_between position zero p = record { least = omega (arith, ints); most = omega (arith, ints) }
band_between position (suc zero) p = record { least = omega (arith, ints); most = omega (arith, ints) }
band_between position (suc (suc zero)) p = record { least = omega (arith, ints); most = omega (arith, ints) }
band_between position (suc (suc (suc zero))) p = record { least = omega (arith, ints); most = omega (arith, ints) }
band_between position (suc (suc (suc (suc i)))) p = absurd (omega arith)
