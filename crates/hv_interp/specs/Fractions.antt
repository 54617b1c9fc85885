-- Predictions of a block of luma at all sixteen fractions of a sample.
use Rattle.std.specs.Prelude.{◌≡◌, ℕ, ◌+◌, ◌*◌, ◌<◌, true, List, slice_index_or, ℤ, pos, ◌+ℤ◌}
use Rattle.hv_types.specs.Samples.{Plane}
use Rattle.hv_inter_model.specs.Interpolation.{predSampleLX, weighted_sample}

-- The block begins in column x of row y of the reference, and has 96 columns and 81 rows. For each
-- fraction of columns there are four predictions, one for each fraction of rows.
abbrev pub ShowsFractions : Plane → ℤ → ℤ → List ℕ → Type 0
ShowsFractions reference x y samples =
    (right below i j : ℕ) → right < 4 → below < 4 → i < 96 → j < 81 →
    slice_index_or samples (31104 * right + 7776 * below + (j * 96 + i)) 0 ≡
    weighted_sample (predSampleLX true reference (x +ℤ pos i) (y +ℤ pos j) right below)
