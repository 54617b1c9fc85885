-- A picture that an encoder keeps as plans: how its squares are coded, which deblocking asks
-- (8.7.2), is by the plans what it is by their trees, as a decoder has them. So it is deblocked by
-- its plans as a decoder does it.
use Rattle.std.specs.Prelude.{◌≡◌, ℕ, ◌+◌, ◌*◌, ◌/◌, ◌%◌, ◌<◌, List, [], ◌∷◌, length, map, slice_get, Some}
use Rattle.hv_types.specs.declared.picture.Picture.{Picture}
use Rattle.hv_types.specs.Video.{IsPicture}
use Rattle.hv_plan.specs.declared.prediction.Unit.{Unit}
use Rattle.hv_tree_model.specs.Trees.{Tree}
use Rattle.hv_tree_model.specs.Sites.{Site, blocks_over, address_of, sites}
use Rattle.hv_tree_model.specs.Plans.{Plan, prediction_of, tree_of}
use Rattle.hv_vector_model.specs.Vectors.{plan_with_vectors}
use Rattle.hv_slice_model.specs.PlannedUnits.{NameTheirUnits}
use Rattle.hv_deblock_model.specs.Deblocking.{deblocked_picture}
use Rattle.hv_deblock_model.specs.CodedSquares.{squares_of_plans}
use Rattle.hv_deblock_model.specs.TreeSquares.{Vectors, pred_of, squares_of_trees}
use Rattle.hv_deblock_model.specs.SquaresInside.{SameInside}
use Rattle.hv_model.specs.Reconstruction.{vectors_of}

-- the trees of plans, as far as there are plans
abbrev pub planned_trees : List Site → List Plan → List Tree
planned_trees [] plans = []
planned_trees (site ∷ sites) [] = []
planned_trees (site ∷ sites) (plan ∷ plans) = tree_of site plan ∷ planned_trees sites plans

-- one for each block of a picture of these sides, which names its units
pub record ArePlans (width height : ℕ) (plans : List Plan) : Type 0 where
  pub count : length plans ≡ blocks_over width * blocks_over height
  pub whole :
      (index : ℕ) (plan : Plan) → slice_get plans index ≡ Some plan → length plan.units ≡ 64
  pub names : NameTheirUnits width height plans

-- inside a picture of these sides, these are the vectors of their inter units
abbrev pub AreVectorsOf : ℕ → ℕ → Vectors → List Plan → Type 0
AreVectorsOf width height vectors plans =
    (column row : ℕ) (plan : Plan) (unit : Unit) → 8 * column < width → 8 * row < height →
    slice_get plans (row / 8 * blocks_over width + column / 8) ≡ Some plan →
    slice_get plan.units (address_of (column % 8) (row % 8)) ≡ Some unit →
    pred_of (vectors column row) (prediction_of unit.pred) ≡ unit.pred

abbrev pub PlannedSquaresAreThoseOfTrees : Type 0
PlannedSquaresAreThoseOfTrees =
    (width height : ℕ) (plans : List Plan) (vectors : Vectors) →
    ArePlans width height plans → AreVectorsOf width height vectors plans →
    SameInside width height (squares_of_plans width plans)
    (squares_of_trees width vectors (planned_trees (sites width height) plans))

-- ---- a picture whose units know their vectors

abbrev pub moving_trees : ℕ → ℕ → List Plan → List Tree
moving_trees width height plans =
    planned_trees (sites width height) (map plan_with_vectors plans)

-- by the trees with vectors, at any quantiser
abbrev pub PlannedPicturesAreDeblockedAlike : Type 0
PlannedPicturesAreDeblockedAlike =
    (qp width height : ℕ) (plans : List Plan) (picture : Picture) →
    width % 8 ≡ 0 → height % 8 ≡ 0 → IsPicture width height picture →
    ArePlans width height (map plan_with_vectors plans) →
    deblocked_picture qp (squares_of_plans width plans) picture ≡
    deblocked_picture qp
    (squares_of_trees width (vectors_of width (moving_trees width height plans))
    (moving_trees width height plans)) picture
