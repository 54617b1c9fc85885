-- What is seen from a coding tree block by the plans of the blocks around it is what is seen in the
-- picture.
use Rattle.std.specs.Prelude.{◌≡◌, ℕ, ◌+◌, ◌-◌, ◌<◌, ◌≤◌, Bool, true, false, nat_lt, ◌&&◌, List, [], ◌∷◌, ◌++◌, length, slice_get, Option, Some, None}
use Rattle.hv_tables.specs.declared.bins.SliceKind.{SliceKind}
use Rattle.hv_plan.specs.declared.prediction.Unit.{Unit}
use Rattle.hv_tree_model.specs.Trees.{Tree, greatest_size}
use Rattle.hv_tree_model.specs.Sites.{Site, site, blocks_over, ctb_column, has_left, has_above, address_of, squares}
use Rattle.hv_tree_model.specs.EarlierUnits.{Square, squares_of, look_picture, in_picture}
use Rattle.hv_unit_model.specs.Bins.{bins_of_node}
use Rattle.hv_tree_model.specs.Plans.{Plan, IsPlan, tree_of, NamesItsUnits, UnitEdges, UnitsAround, look_around, in_block}

-- ---- the blocks before

-- the squares of their trees, one block behind the other, from this number on
abbrev pub squares_of_plans : ℕ → ℕ → ℕ → List Plan → List Square
squares_of_plans width height index [] = []
squares_of_plans width height index (plan ∷ plans) =
    squares_of greatest_size (tree_of (site width height index) plan) ++
    squares_of_plans width height (index + 1) plans

-- of all blocks before this one
abbrev pub squares_before : Site → List Plan → List Square
squares_before here plans = squares_of_plans here.width here.height 0 plans

-- the plans of all blocks before this one
pub record ArePlansBefore (here : Site) (plans : List Plan) : Type 0 where
  pub count : length plans ≡ here.index
  pub whole : (index : ℕ) (plan : Plan) → slice_get plans index ≡ Some plan → IsPlan plan
  pub named :
      (index : ℕ) (plan : Plan) → slice_get plans index ≡ Some plan →
      NamesItsUnits (site here.width here.height index) plan

-- ---- the blocks around

abbrev pub unit_of_plan : Option Plan → ℕ → Option Unit
unit_of_plan None address = None
unit_of_plan (Some plan) address = slice_get plan.units address

-- the last column and the last row of the block of this number
pub record AreEdges (plans : List Plan) (index : ℕ) (edges : UnitEdges) : Type 0 where
  pub right_count : length edges.right ≡ 8
  pub right :
      (row : ℕ) → row < 8 →
      slice_get edges.right row ≡ unit_of_plan (slice_get plans index) (address_of 7 row)
  pub bottom_count : length edges.bottom ≡ 8
  pub bottom :
      (column : ℕ) → column < 8 →
      slice_get edges.bottom column ≡ unit_of_plan (slice_get plans index) (address_of column 7)

-- there are edges just where the picture has the block
abbrev pub AreSeen : Bool → List Plan → ℕ → Option UnitEdges → Type 0
AreSeen has_block plans index None = has_block ≡ false
AreSeen has_block plans index (Some edges) = (has_block ≡ true) × AreEdges plans index edges

-- whether there is a block above, and one at its right
abbrev pub has_above_right : Site → Bool
has_above_right here = has_above here && nat_lt (ctb_column here + 1) (blocks_over here.width)

pub record LieAround (here : Site) (plans : List Plan) (around : UnitsAround) : Type 0 where
  pub left : AreSeen (has_left here) plans (here.index - 1) around.left
  pub above_left :
      AreSeen (has_left here && has_above here) plans (here.index - blocks_over here.width - 1)
      around.above_left
  pub above : AreSeen (has_above here) plans (here.index - blocks_over here.width) around.above
  pub above_right :
      AreSeen (has_above_right here) plans (here.index - blocks_over here.width + 1)
      around.above_right

-- ---- laws

-- from the column and the row before the block on, up to eight squares behind it
abbrev pub BlocksAroundAreThoseOfPicture : Type 0
BlocksAroundAreThoseOfPicture =
    (here : Site) (plans : List Plan) (around : UnitsAround) (earlier : List Square)
    (column row : ℕ) → ArePlansBefore here plans → LieAround here plans around →
    length earlier ≤ 64 → 7 ≤ column → column < 24 → 7 ≤ row → row < 24 →
    look_around here around earlier column row ≡
    look_picture here (squares_before here plans) earlier column row

-- so the bins of a node are the same with either
abbrev pub BinsInBlockAreThoseInPicture : Type 0
BinsInBlockAreThoseInPicture =
    (slice_type : SliceKind) (references : ℕ) (here : Site) (plans : List Plan)
    (around : UnitsAround) (size address : ℕ) (earlier : List Square) (tree : Tree) →
    ArePlansBefore here plans → LieAround here plans around →
    length earlier + squares size ≤ 64 →
    bins_of_node (in_block slice_type references here around) size address earlier tree ≡
    bins_of_node (in_picture slice_type references here (squares_before here plans)) size address
    earlier tree

-- The squares of one block more come behind those of the blocks before.
abbrev pub PlansAreAppended : Type 0
PlansAreAppended =
    (here : Site) (plans : List Plan) (plan : Plan) → length plans ≡ here.index →
    squares_before here (plans ++ plan ∷ []) ≡
    squares_before here plans ++ squares_of greatest_size (tree_of here plan)
