-- Windows onto a reference: its samples from a place on, by rows, where coordinates outside stand
-- for the nearest inside.
use Rattle.std.specs.Prelude.{◌≡◌, ℕ, ◌+◌, ◌-◌, ◌*◌, ◌<◌, List, slice_index_or, ℤ, pos, ◌+ℤ◌}
use Rattle.std.specs.Int.RustNames.{unsigned_abs}
use Rattle.hv_lemmas.specs.Clipping.{clip3}
use Rattle.hv_types.specs.Samples.{Plane}
use Rattle.hv_types.specs.Windows.{HoldsBlock}
use Rattle.hv_inter_model.specs.Interpolation.{reference_sample}

-- the coordinate inside a side that is nearest to another
abbrev pub nearest_in : ℕ → ℤ → ℕ
nearest_in side z = unsigned_abs (clip3 (pos 0) (pos (side - 1)) z)

-- the sample in column i of row j
abbrev pub sample_of : List ℕ → ℕ → ℕ → ℕ → ℤ
sample_of samples stride i j = pos (slice_index_or samples (j * stride + i) 0)

-- so many columns and rows of a reference, from column x of row y on
pub record Shows (reference : Plane) (x y : ℤ) (columns rows : ℕ) (samples : List ℕ) (stride : ℕ) :
    Type 0 where
  pub whole : HoldsBlock samples stride columns rows
  pub each : (i j : ℕ) → i < columns → j < rows →
      sample_of samples stride i j ≡ reference_sample reference (x +ℤ pos i) (y +ℤ pos j)

-- the samples of a reference from column x of row y on
abbrev pub reference_from : Plane → ℤ → ℤ → ℕ → ℕ → ℤ
reference_from reference x y i j = reference_sample reference (x +ℤ pos i) (y +ℤ pos j)
