-- Sums over samples, as a search without any shortcut takes them.
use Rattle.std.specs.Prelude.{ℕ, ◌+◌, ◌*◌, ◌/◌, ◌%◌, pos, ◌-ℤ◌}
use Rattle.std.specs.Int.{abs_diff}
use Rattle.hv_types.specs.Samples.{Plane, sample_at}
use Rattle.hv_plan.specs.declared.prediction.Mv.{Mv}
use Rattle.hv_search_model.specs.MotionSearch.{moved, Score, moved_sample, absolute_differences}

-- how far the sample in column x of row y is from the one to which a vector leads
abbrev pub gap_of : Plane → Plane → Mv → ℕ → ℕ → ℕ
gap_of input reference mv x y = abs_diff (sample_at input x y) (moved_sample reference mv x y)

-- the score for an area
abbrev pub area_score : Plane → Plane → ℕ → ℕ → ℕ → ℕ → Score
area_score input reference x y columns rows mv =
    absolute_differences input (record { left = x; top = y; columns = columns; rows = rows })
    (moved_sample reference mv)

-- place t of rows of vectors up to so many samples around one
abbrev pub whole_place : ℕ → Mv → ℕ → Mv
whole_place reach centre t =
    moved centre (pos (t % (2 * reach + 1)) -ℤ pos reach) (pos (t / (2 * reach + 1)) -ℤ pos reach)
