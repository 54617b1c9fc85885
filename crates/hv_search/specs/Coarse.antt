-- The coarse stage, by the place of a block in the picture of quarter size.
use Rattle.std.specs.Prelude.{◌≡◌, ℕ, ◌+◌, ◌-◌, ◌/◌, ◌%◌, ◌<◌, min, cond, nat_lt, List, take, drop, slice_index, pos, ◌-ℤ◌}
use Rattle.std.specs.Simd.Lanes.{zip2}
use Rattle.hv_lemmas.specs.Lists.{tabulate}
use Rattle.hv_types.specs.Samples.{Plane}
use Rattle.hv_kernel.specs.Differences.{sad_of}
use Rattle.hv_plan.specs.declared.prediction.Mv.{Mv}
use Rattle.hv_filter_model.specs.Costs.{first_least}
use Rattle.hv_search_model.specs.MotionSearch.{vector, Score, quarter_side, absolute_differences, moved_sample}
use Rattle.hv_search.specs.declared.best.Best.{Best}

-- the score of a vector for the block that begins in this column and row
abbrev pub block_score : Plane → Plane → ℕ → ℕ → Score
block_score input reference left top mv =
    absolute_differences input
    (record {
      left = left;
      top = top;
      columns = min quarter_side (input.width - left);
      rows = min quarter_side (input.height - top);
    })
    (moved_sample reference mv)

-- 255 for each of so many columns, and 0 behind them
abbrev pub IsMask : ℕ → List ℕ → Type 0
IsMask columns mask = (i : ℕ) → i < 16 → slice_index mask i ≡ cond (nat_lt i columns) 255 0

-- the sum of absolute differences of 16 samples from place a on, and of masked ones of a window
-- from place b on
abbrev pub masked_sum : List ℕ → List ℕ → ℕ → List ℕ → ℕ → ℕ
masked_sum source mask a window b =
    sad_of (take 16 (drop a source)) (zip2 min (take 16 (drop b window)) mask)

-- those of four rows, which the window has 48 samples apart
abbrev pub four_sums : List ℕ → List ℕ → ℕ → List ℕ → ℕ → ℕ
four_sums source mask a window b =
    (masked_sum source mask a window b + masked_sum source mask (a + 16) window (b + 48)) +
    (masked_sum source mask (a + 32) window (b + 96) +
    masked_sum source mask (a + 48) window (b + 144))

-- vectors by their places in rows of so many, the middle of which has so many before it
abbrev pub vector_in : ℕ → ℕ → ℕ → Mv
vector_in before right down = vector (pos right -ℤ pos before) (pos down -ℤ pos before)

-- the best of the first so many places in rows of 33
pub record IsBest (score : Score) (count : ℕ) (best : Best) : Type 0 where
  pub is : vector_in 16 best.right best.down ≡
      first_least score (vector (pos 0) (pos 0))
      (tabulate count (λ t. vector_in 16 (t % 33) (t / 33)))
  pub sum : best.sum ≡ score (vector_in 16 best.right best.down)
