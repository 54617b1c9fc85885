-- Windows onto planes, by rows.
use Rattle.std.proofs.Common.{◌≡◌, ℕ, ◌+◌, ◌*◌, ◌%◌, ◌/◌, ◌<◌, ◌≤◌, ◌∙◌, List, subst, ap₂, arith, ℤ, pos, ◌+ℤ◌, w64, to_z, of_z}
use Rattle.std.specs.Int.RustNames.{unsigned_abs}
use Rattle.std.proofs.lemmas.Int.{to_z-of_z, fits_signed_from_abs}
use Rattle.std.proofs.lemmas.Nat.{mod-mul-add, div-mul-add}
use Rattle.hv_types.specs.Samples.{Plane}
use Rattle.hv_search.specs.Windows.{nearest_sample, Shows}

-- column i of row j of a window of n columns
pub shown_at : (plane : Plane) (x y : ℤ) (n j i : ℕ) → i < n →
    nearest_sample plane (x +ℤ pos ((j * n + i) % n)) (y +ℤ pos ((j * n + i) / n)) ≡
    nearest_sample plane (x +ℤ pos i) (y +ℤ pos j)
shown_at plane x y n j i across =
    ap₂ (λ a b. nearest_sample plane (x +ℤ pos a) (y +ℤ pos b)) (mod-mul-add j n i across)
    (div-mul-add j n i across)

-- the same window, its corner written otherwise
pub shows_from : (plane : Plane) (x y u v : ℤ) (side : ℕ) (samples : List ℕ) → x ≡ u → y ≡ v →
    Shows plane x y side samples → Shows plane u v side samples
shows_from plane x y u v side samples e f shows =
    subst (λ a. Shows plane a v side samples) e (subst (λ b. Shows plane x b side samples) f shows)

-- a coordinate passes as it is
pub came : (z v : ℤ) → unsigned_abs z ≤ 8589934592 → z ≡ v → to_z w64 (of_z w64 z) ≡ v
came z v near is = to_z-of_z w64 z (fits_signed_from_abs w64 z (omega (arith, near))) ∙ is
