-- The best of nine vectors, and the scores of such.
use Rattle.std.specs.Prelude.{◌≡◌, ℕ, ◌*◌, ◌/◌, ◌%◌, List, pos, ◌-ℤ◌}
use Rattle.hv_lemmas.specs.Lists.{tabulate}
use Rattle.hv_plan.specs.declared.prediction.Mv.{Mv}
use Rattle.hv_filter_model.specs.Costs.{first_least}
use Rattle.hv_interp.specs.Filters.{HasFirst}
use Rattle.hv_search_model.specs.MotionSearch.{moved, Score, least_around}
use Rattle.hv_search.specs.declared.scored.Scored.{Scored}

-- place t of three rows of three around a vector
abbrev pub around_place : ℕ → Mv → ℕ → Mv
around_place step centre t =
    moved centre (pos (step * (t % 3)) -ℤ pos step) (pos (step * (t / 3)) -ℤ pos step)

-- the scores of the first so many places
abbrev pub AreScores : Score → ℕ → Mv → ℕ → List ℕ → Type 0
AreScores score step centre count sums =
    HasFirst 0 count (λ t. score (around_place step centre t)) sums

-- the best of a vector and of the first so many places
pub record IsBestOf (score : Score) (centre : Mv) (place : ℕ → Mv) (count : ℕ) (best : Scored) :
    Type 0 where
  pub is : best.mv ≡ first_least score centre (tabulate count place)
  pub sum : best.sum ≡ score best.mv

abbrev pub IsBestOfNine : Score → ℕ → Mv → ℕ → Scored → Type 0
IsBestOfNine score step centre count best =
    IsBestOf score centre (around_place step centre) count best

-- the best of all nine
pub record IsLeastAround (score : Score) (step : ℕ) (centre : Mv) (best : Scored) : Type 0 where
  pub is : best.mv ≡ least_around score 1 step centre
  pub sum : best.sum ≡ score best.mv
