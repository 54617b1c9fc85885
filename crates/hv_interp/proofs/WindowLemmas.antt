-- Copies of a reference, row by row.
use Rattle.std.proofs.Common.{◌≡◌, ℕ, ◌+◌, ◌*◌, ◌/◌, ◌%◌, ◌<◌, ap₂, ℤ, pos, ◌+ℤ◌}
use Rattle.std.proofs.lemmas.Nat.{mod-mul-add, div-mul-add}
use Rattle.hv_types.specs.Samples.{Plane, sample_at}
use Rattle.hv_interp.specs.Windows.{nearest_in}

-- the sample of a reference that is nearest to a column and a row
abbrev pub nearest_sample : Plane → ℤ → ℤ → ℕ
nearest_sample reference x y =
    sample_at reference (nearest_in reference.width x) (nearest_in reference.height y)

-- column i of row j of a window of n columns
pub shown_at : (reference : Plane) (x y : ℤ) (n j i : ℕ) → i < n →
    nearest_sample reference (x +ℤ pos ((j * n + i) % n)) (y +ℤ pos ((j * n + i) / n)) ≡
    nearest_sample reference (x +ℤ pos i) (y +ℤ pos j)
shown_at reference x y n j i across =
    ap₂ (λ a b. nearest_sample reference (x +ℤ pos a) (y +ℤ pos b)) (mod-mul-add j n i across)
    (div-mul-add j n i across)
