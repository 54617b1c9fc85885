-- Scores of the nodes of a block by a field of predictions around it.
use Rattle.std.specs.Prelude.{ℕ, ◌+◌, ◌≤◌, ◌-ℤ◌}
use Rattle.std.specs.Int.RustNames.{unsigned_abs}
use Rattle.hv_plan.specs.declared.prediction.Mv.{Mv}
use Rattle.hv_search_model.specs.MotionSearch.{Score, fractional_score}
use Rattle.hv_search.specs.Numbers.{left_of, top_of, side_of}
use Rattle.hv_search.specs.declared.field.Field.{Field}
use Rattle.hv_search.specs.declared.part.Part.{Part}

-- a vector that leads no further than so much from another one
pub record IsNear (most : ℕ) (centre mv : Mv) : Type 0 where
  pub across : unsigned_abs (mv.x -ℤ centre.x) ≤ most
  pub down : unsigned_abs (mv.y -ℤ centre.y) ≤ most

-- how well a vector does for a node of the block
abbrev pub part_score : Field → Part → Score
part_score field part =
    fractional_score field.input.now field.reference.now (field.x + part.left)
    (field.y + part.top) part.side

-- so for node n
abbrev pub node_score : Field → ℕ → Score
node_score field n =
    fractional_score field.input.now field.reference.now (field.x + left_of n)
    (field.y + top_of n) (side_of n)
