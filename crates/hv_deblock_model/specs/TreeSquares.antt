-- How the squares of a picture are coded, from the trees of its coding tree blocks, as a decoder
-- reads them. What a tree doesn't have is the vector of an inter unit, which is derived (8.5.3.2).
use Rattle.std.specs.Prelude.{ℕ, zero, suc, ◌+◌, ◌-◌, ◌*◌, ◌/◌, ◌%◌, Bool, false, List, [], ◌∷◌, ◌++◌, replicate, slice_index_or}
use Rattle.hv_plan.specs.declared.prediction.Mv.{Mv}
use Rattle.hv_plan.specs.declared.prediction.Pred.{Pred}
use Rattle.hv_plan.specs.declared.prediction.Pred.TheVariants.{Intra as IntraPred, Inter as InterPred}
use Rattle.hv_plan.specs.Levels.{any_significant}
use Rattle.hv_tree_model.specs.Trees.{Prediction, Intra, Inter, TransformUnit, Tree, Leaf, Split, Outside, log2TrafoSize, greatest_size}
use Rattle.hv_tree_model.specs.Sites.{squares, blocks_over, address_of}
use Rattle.hv_tree_model.specs.EarlierUnits.{Square, Unavailable, Coded, squares_of}
use Rattle.hv_deblock_model.specs.declared.coding.SquareCoding.{SquareCoding}
use Rattle.hv_deblock_model.specs.EdgeStrength.{Squares}
use Rattle.hv_deblock_model.specs.CodedSquares.{no_square}

-- ---- cbf_luma of each square of a node, by their addresses

-- of transform units that have so many squares each
abbrev pub unit_levels : ℕ → List TransformUnit → List Bool
unit_levels count [] = []
unit_levels count (t ∷ units) =
    replicate count (any_significant t.luma) ++ unit_levels count units

-- those outside the picture are there
abbrev pub levels_of : ℕ → Tree → List Bool
levels_of size Outside = replicate (squares size) false
levels_of size (Leaf prediction units) = unit_levels (squares (log2TrafoSize size - 3)) units
levels_of zero (Split a b c d) = []
levels_of (suc size) (Split a b c d) =
    levels_of size a ++ (levels_of size b ++ (levels_of size c ++ levels_of size d))

-- ---- squares

abbrev pub pred_of : Mv → Prediction → Pred
pred_of mv (Intra mode) = IntraPred mode
pred_of mv (Inter motion) = InterPred motion.ref_idx_l0 mv motion.mvp_l0_flag motion.MvdL0

abbrev pub square_coding : Mv → Bool → Square → SquareCoding
square_coding mv has_levels Unavailable = no_square
square_coding mv has_levels (Coded depth prediction) = record {
  unit = record { depth = depth; pred = pred_of mv prediction };
  has_levels = has_levels;
}

-- the vector of each square, by column and row, both counted in squares
abbrev pub Vectors : Type 0
Vectors = ℕ → ℕ → Mv

-- the squares of a picture of so many luma columns, from one tree a block in raster order
abbrev pub squares_of_trees : ℕ → Vectors → List Tree → Squares
squares_of_trees width vectors trees column row =
    let tree = slice_index_or trees (row / 8 * blocks_over width + column / 8) Outside in
    let address = address_of (column % 8) (row % 8) in
    square_coding (vectors column row)
    (slice_index_or (levels_of greatest_size tree) address false)
    (slice_index_or (squares_of greatest_size tree) address Unavailable)
