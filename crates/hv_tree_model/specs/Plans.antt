-- A coding tree block as the encoder keeps it: flat lists, the coding quadtree that they stand for,
-- and what is seen of the blocks around it.
use Rattle.std.specs.Prelude.{◌≡◌, ℕ, zero, suc, ◌+◌, ◌-◌, ◌*◌, ◌^◌, ◌<◌, Bool, false, cond, nat_eq, nat_lt, nat_le, ◌&&◌, List, [], ◌∷◌, length, take, drop, slice_get, slice_index_or, Option, Some, None, ℤ}
use Rattle.hv_tables.specs.declared.bins.SliceKind.{SliceKind}
use Rattle.hv_plan.specs.declared.prediction.Pred.{Pred}
use Rattle.hv_plan.specs.declared.prediction.Pred.TheVariants.{Intra as IntraPred, Inter as InterPred}
use Rattle.hv_plan.specs.declared.prediction.Unit.{Unit}
use Rattle.hv_tree_model.specs.Trees.{Prediction, Intra, Inter, TransformUnit, Tree, Leaf, Split, Outside, depth_of, greatest_size, log2TrafoSize, transform_units}
use Rattle.hv_tree_model.specs.Sites.{Site, ctb_column, ctb_row, address_of, squares, is_outside}
use Rattle.hv_tree_model.specs.EarlierUnits.{Square, Unavailable, Coded, squares_of, Look, Surroundings}

-- ---- plans

-- The units of the 64 squares of 8x8 luma samples, by their addresses, and the levels of the
-- transform blocks, in decoding order, those of each block by rows: 4,096 of luma, and 1,024 each
-- of Cb and Cr.
pub record Plan : Type 0 where
  pub units : List Unit
  pub luma : List ℤ
  pub cb : List ℤ
  pub cr : List ℤ

pub record IsPlan (plan : Plan) : Type 0 where
  pub units : length plan.units ≡ 64
  pub luma : length plan.luma ≡ 4096
  pub cb : length plan.cb ≡ 1024
  pub cr : length plan.cr ≡ 1024

-- what is coded of a prediction
abbrev pub prediction_of : Pred → Prediction
prediction_of (IntraPred mode) = Intra mode
prediction_of (InterPred reference mv flag mvd) =
    Inter (record { ref_idx_l0 = reference; mvp_l0_flag = flag; MvdL0 = mvd })

-- what is known of a square
abbrev pub coded_square : Unit → Square
coded_square unit = Coded unit.depth (prediction_of unit.pred)

abbrev pub square_or_none : Option Unit → Square
square_or_none None = Unavailable
square_or_none (Some unit) = coded_square unit

-- ---- the tree of a plan

abbrev pub part : {A : Type 0} → List A → ℕ → ℕ → List A
part list from count = take count (drop from list)

-- of side 2^log2, at an address
abbrev pub transform_unit_at : Plan → ℕ → ℕ → TransformUnit
transform_unit_at plan log2 address = record {
  luma = part plan.luma (64 * address) (2 ^ log2 * 2 ^ log2);
  cb = part plan.cb (16 * address) (2 ^ (log2 - 1) * 2 ^ (log2 - 1));
  cr = part plan.cr (16 * address) (2 ^ (log2 - 1) * 2 ^ (log2 - 1));
}

-- so many of them, one behind the other
abbrev pub transform_units_at : Plan → ℕ → ℕ → ℕ → List TransformUnit
transform_units_at plan log2 address zero = []
transform_units_at plan log2 address (suc count) =
    transform_unit_at plan log2 address ∷
    transform_units_at plan log2 (address + squares (log2 - 3)) count

-- a coding unit of this size that is predicted as its upper left square is
abbrev pub leaf_of : Plan → ℕ → ℕ → Pred → Tree
leaf_of plan size address pred =
    Leaf (prediction_of pred)
    (transform_units_at plan (log2TrafoSize size) address (transform_units size))

abbrev pub leaf_at : Plan → ℕ → ℕ → Option Unit → Tree
leaf_at plan size address None = Outside
leaf_at plan size address (Some unit) = leaf_of plan size address unit.pred

-- a node is a coding unit where its upper left square doesn't lie deeper
abbrev pub is_leaf : ℕ → Option Unit → Bool
is_leaf size None = false
is_leaf size (Some unit) = nat_le unit.depth (depth_of size)

unfoldable pub tree_at : Site → Plan → ℕ → ℕ → Tree
tree_at site plan zero address =
    cond (is_outside site address) Outside
    (leaf_at plan zero address (slice_get plan.units address))
tree_at site plan (suc size) address =
    cond (is_outside site address) Outside
    (cond (is_leaf (suc size) (slice_get plan.units address))
    (leaf_at plan (suc size) address (slice_get plan.units address))
    (Split
    (tree_at site plan size address)
    (tree_at site plan size (address + squares size))
    (tree_at site plan size (address + 2 * squares size))
    (tree_at site plan size (address + 3 * squares size))))

abbrev pub tree_of : Site → Plan → Tree
tree_of site plan = tree_at site plan greatest_size 0

-- each square inside the picture names depth and prediction of its coding unit
pub record NamesItsUnits (site : Site) (plan : Plan) : Type 0 where
  pub square :
      (address : ℕ) → address < 64 → is_outside site address ≡ false →
      slice_index_or (squares_of greatest_size (tree_of site plan)) address Unavailable ≡
      square_or_none (slice_get plan.units address)

-- ---- the blocks around

-- the units in the last column of a block, from top to bottom, and those in its last row, from left
-- to right
pub record UnitEdges : Type 0 where
  pub right : List Unit
  pub bottom : List Unit

-- those of the four blocks around that were coded before it; none where there is no such block
pub record UnitsAround : Type 0 where
  pub left : Option UnitEdges
  pub above_left : Option UnitEdges
  pub above : Option UnitEdges
  pub above_right : Option UnitEdges

abbrev pub on_right : Option UnitEdges → ℕ → Square
on_right None i = Unavailable
on_right (Some edges) i = square_or_none (slice_get edges.right i)

abbrev pub on_bottom : Option UnitEdges → ℕ → Square
on_bottom None i = Unavailable
on_bottom (Some edges) i = square_or_none (slice_get edges.bottom i)

-- columns and rows are counted in squares, so that those of the block begin at 8

abbrev pub square_at_left : UnitsAround → ℕ → Square
square_at_left around row =
    cond (nat_lt row 8)
    (cond (nat_eq row 7) (on_bottom around.above_left 7) Unavailable)
    (on_right around.left (row - 8))

abbrev pub square_above : UnitsAround → ℕ → Square
square_above around column =
    cond (nat_lt column 16)
    (on_bottom around.above (column - 8))
    (on_bottom around.above_right (column - 16))

-- inside the block: it is there where it was coded earlier
abbrev pub square_inside : List Square → ℕ → ℕ → Square
square_inside earlier column row =
    cond (nat_lt column 16 && nat_lt row 16)
    (slice_index_or earlier (address_of (column - 8) (row - 8)) Unavailable)
    Unavailable

abbrev pub square_around : UnitsAround → List Square → ℕ → ℕ → Square
square_around around earlier column row =
    cond (nat_lt column 8)
    (cond (nat_eq column 7) (square_at_left around row) Unavailable)
    (cond (nat_lt row 8)
    (cond (nat_eq row 7) (square_above around column) Unavailable)
    (square_inside earlier column row))

-- a square at this column and row, each counted from 8 at the picture's left and top edge
abbrev pub is_in_picture : Site → ℕ → ℕ → Bool
is_in_picture site column row =
    nat_le 8 column && nat_le 8 row &&
    nat_lt (8 * (column - 8)) site.width && nat_lt (8 * (row - 8)) site.height

-- what is seen from a block by what lies around it
unfoldable pub look_around : Site → UnitsAround → Look
look_around site around earlier column row =
    cond (is_in_picture site (8 * ctb_column site + column) (8 * ctb_row site + row))
    (square_around around earlier column row)
    Unavailable

abbrev pub in_block : SliceKind → ℕ → Site → UnitsAround → Surroundings
in_block slice_type references site around = record {
  slice_type = slice_type;
  references = references;
  site = site;
  look = look_around site around;
}
