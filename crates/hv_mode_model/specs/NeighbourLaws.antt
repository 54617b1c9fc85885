-- The candidates by the plans of the blocks around are those in the picture.
use Rattle.std.specs.Prelude.{◌≡◌, ℕ, ◌<◌, ◌≤◌, List, length, map}
use Rattle.hv_tree_model.specs.Sites.{Site}
use Rattle.hv_tree_model.specs.EarlierUnits.{Square, look_picture}
use Rattle.hv_tree_model.specs.Plans.{Plan, UnitsAround, look_around}
use Rattle.hv_unit_model.specs.PlanLaws.{squares_before, ArePlansBefore, LieAround}
use Rattle.hv_vector_model.specs.Vectors.{neighbourhood_of, plan_with_vectors, around_with_vectors}

-- Where each square of the blocks before names its unit and the vector of it, the five squares
-- around a node move as in the picture.
abbrev pub NeighbourhoodsInBlockAreThoseInPicture : Type 0
NeighbourhoodsInBlockAreThoseInPicture =
    (here : Site) (plans : List Plan) (around : UnitsAround) (size address : ℕ)
    (earlier : List Square) →
    ArePlansBefore here (map plan_with_vectors plans) → LieAround here plans around →
    size ≤ 3 → address < 64 → length earlier ≤ 64 →
    neighbourhood_of (look_around here (around_with_vectors around)) size address earlier ≡
    neighbourhood_of (look_picture here (squares_before here (map plan_with_vectors plans))) size
    address earlier
