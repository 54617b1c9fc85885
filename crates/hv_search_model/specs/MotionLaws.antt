-- How far motion search reaches.
use Rattle.std.specs.Prelude.{◌≡◌, ℕ, ◌≤◌, Some}
use Rattle.std.specs.Int.RustNames.{unsigned_abs}
use Rattle.hv_plan.specs.declared.prediction.Mv.{Mv}
use Rattle.hv_types.specs.Samples.{Plane}
use Rattle.hv_search_model.specs.MotionSearch.{node_vector}

-- neither component leads further than so much
pub record IsWithin (most : ℕ) (mv : Mv) : Type 0 where
  pub across : unsigned_abs mv.x ≤ most
  pub down : unsigned_abs mv.y ≤ most

-- 4 * (4 * 16 + 8) quarters of a sample, a half and a quarter
abbrev pub VectorsAreShort : Type 0
VectorsAreShort =
    (effort : ℕ) (input reference : Plane) (x y side : ℕ) (mv : Mv) →
    node_vector effort input reference x y side ≡ Some mv → IsWithin 291 mv
