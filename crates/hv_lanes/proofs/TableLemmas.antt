-- Tables whose numbers are those of the transform matrix.
use Rattle.std.proofs.Common.{Bool, List, [], arith, nat_le, pos, refl, suc, true, zero, ℕ, ℤ, ◌&&◌, ◌*◌, ◌+◌, ◌/◌, ◌^◌, ◌∷◌, ◌≡◌, ◌≤◌}
use Rattle.std.specs.Int.RustNames.{unsigned_abs}
use Rattle.std.proofs.lemmas.Int.{fits_signed_from_abs, ints}
use mir.Syntax.{w16}
use mir.Val.{SFits}
use Rattle.std.proofs.lemmas.Bool.{and_parts, leb-true}
use Rattle.hv_lanes.specs.Lanes.{Numbers}
use Rattle.hv_lanes.specs.Passes.{table_row}

abbrev pub row_of_half : ℕ → ℕ → ℕ → ℕ
row_of_half d g q = (4 ^ d + 2) / 3 + 2 ^ d * g + q

abbrev pub all_list : {A : Type 0} → (A → Bool) → List A → Bool
all_list p [] = true
all_list p (x ∷ xs) = p x && all_list p xs

abbrev pub is_light : List ℤ → Bool
is_light row = all_list (λ z. nat_le (unsigned_abs z) 90) row

fits_light : (z : ℤ) → unsigned_abs z ≤ 90 → SFits w16 z
fits_light z h = fits_signed_from_abs w16 z (omega (arith, h))

numbers_of_light : (row : List ℤ) → is_light row ≡ true → Numbers row
numbers_of_light [] h k = fits_light (pos 0) (omega (arith, ints))
numbers_of_light (z ∷ row) h zero = fits_light z (leb-true _ _ (and_parts _ _ h).0)
numbers_of_light (z ∷ row) h (suc k) = numbers_of_light row (and_parts _ _ h).1 k

pub rows_of_light : (table : List (List ℤ)) → all_list is_light table ≡ true → (i : ℕ) → Numbers (table_row table i)
rows_of_light [] h i = numbers_of_light [] refl
rows_of_light (row ∷ table) h zero = numbers_of_light row (and_parts _ _ h).0
rows_of_light (row ∷ table) h (suc i) = rows_of_light table (and_parts _ _ h).1 i
