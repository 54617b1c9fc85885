-- The two steps of the forward transform give the coefficients of the definition, and these have 16 bits.
use Rattle.std.proofs.Common.{List, arith, length, pos, slice_index_or, ℕ, ℤ, ◌*◌, ◌≡◌}
use Rattle.hv_lanes.specs.Passes.{AreWithin}
use Rattle.std.specs.Int.RustNames.{FitsSigned}
use Rattle.std.proofs.lemmas.Int.{fits_signed_from_abs}
use Rattle.std.proofs.lemmas.List.Elements.{All-from_get_or}
use mir.Syntax.{w16}
use Rattle.hv_lanes.specs.Ranges.{Have16Bits}

pub Have16Bits-within : (n : ℕ) (numbers : List ℤ) → length numbers ≡ n * n → AreWithin (n * n) 32640 numbers → Have16Bits numbers
Have16Bits-within n numbers whole within =
    All-from_get_or (FitsSigned w16) numbers (pos 0)
    (λ i below. fits_signed_from_abs w16 (slice_index_or numbers i (pos 0)) (omega (arith, within i (omega (arith, whole, below)))))
