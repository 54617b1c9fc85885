-- The vectors of the units of a picture (8.5.3.2.1), by those coded before. Where a unit knows its
-- vector, that stands in the place of the coded difference: a tree with vectors has MvL0 for MvdL0,
-- and so have its squares, and the units of a plan with vectors.
use Rattle.std.specs.Prelude.{ℕ, zero, suc, ◌+◌, ◌-◌, ◌*◌, ◌^◌, List, [], ◌∷◌, map, slice_index_or, Option, Some, None, ◌+ℤ◌}
use Rattle.std.specs.Int.{w16, int_wrap}
use Rattle.hv_plan.specs.declared.prediction.Mv.{Mv}
use Rattle.hv_inter_model.specs.UnitVectors.{unit_with_vector}
use Rattle.hv_tree_model.specs.Trees.{Motion, Prediction, Intra, Inter, Tree, Leaf, Split, Outside, greatest_size}
use Rattle.hv_tree_model.specs.Sites.{Site, column_of, row_of, squares}
use Rattle.hv_tree_model.specs.EarlierUnits.{Square, Unavailable, Coded, after, Look, look_picture}
use Rattle.hv_tree_model.specs.Plans.{Plan, UnitEdges, UnitsAround}
use Rattle.hv_vector_model.specs.declared.motion.Moving.{Moving}
use Rattle.hv_vector_model.specs.declared.motion.Neighbourhood.{Neighbourhood}
use Rattle.hv_vector_model.specs.VectorPrediction.{Distances, mvpListL0, no_vector}

-- ---- the squares around a unit

-- none where it isn't available, or is predicted inside the picture (6.4.2)
abbrev pub moving_of : Square → Option Moving
moving_of Unavailable = None
moving_of (Coded CtDepth (Intra mode)) = None
moving_of (Coded CtDepth (Inter motion)) =
    Some (record { reference = motion.ref_idx_l0; mv = motion.MvdL0 })

-- Of a unit in this column and row, of so many squares from one side to the other: A0 below its
-- left side, and A1 at the lowest of this side; B0 behind its upper side, B1 at the last of this
-- side, and B2 at the corner. Columns and rows are counted from a place before the unit.
abbrev pub neighbourhood : (ℕ → ℕ → Square) → ℕ → ℕ → ℕ → Neighbourhood
neighbourhood square column row side = record {
  a0 = moving_of (square (column - 1) (row + side));
  a1 = moving_of (square (column - 1) (row + side - 1));
  b0 = moving_of (square (column + side) (row - 1));
  b1 = moving_of (square (column + side - 1) (row - 1));
  b2 = moving_of (square (column - 1) (row - 1));
}

-- those of a node of this size at this address, behind these squares of its block
abbrev pub neighbourhood_of : Look → ℕ → ℕ → List Square → Neighbourhood
neighbourhood_of look size address earlier =
    neighbourhood (look earlier) (8 + column_of address) (8 + row_of address) (2 ^ size)

-- ---- units

-- a candidate and a difference, modulo 2^16
abbrev pub moved_by : Mv → Mv → Mv
moved_by mvpL0 MvdL0 = record {
  x = int_wrap w16 (mvpL0.x +ℤ MvdL0.x);
  y = int_wrap w16 (mvpL0.y +ℤ MvdL0.y);
}

abbrev pub vector_of : Distances → Neighbourhood → Motion → Mv
vector_of distances n motion =
    moved_by
    (slice_index_or (mvpListL0 distances motion.ref_idx_l0 n) motion.mvp_l0_flag no_vector)
    motion.MvdL0

abbrev pub prediction_with_vector : Distances → Neighbourhood → Prediction → Prediction
prediction_with_vector distances n (Intra mode) = Intra mode
prediction_with_vector distances n (Inter motion) =
    Inter (record motion { MvdL0 = vector_of distances n motion })

-- ---- trees

-- a node of this size at this address, behind these squares of its block, which have vectors
unfoldable pub tree_with_vectors : Distances → Look → ℕ → ℕ → List Square → Tree → Tree
tree_with_vectors distances look size address earlier Outside = Outside
tree_with_vectors distances look size address earlier (Leaf prediction units) =
    Leaf
    (prediction_with_vector distances (neighbourhood_of look size address earlier) prediction)
    units
tree_with_vectors distances look zero address earlier (Split a b c d) = Split a b c d
tree_with_vectors distances look (suc size) address earlier (Split a b c d) =
    let n : ℕ = squares size in
    let first : Tree = tree_with_vectors distances look size address earlier a in
    let behind_first : List Square = after size earlier first in
    let second : Tree =
    tree_with_vectors distances look size (address + n) behind_first b in
    let behind_second : List Square = after size behind_first second in
    let third : Tree =
    tree_with_vectors distances look size (address + 2 * n) behind_second c in
    let behind_third : List Square = after size behind_second third in
    let fourth : Tree =
    tree_with_vectors distances look size (address + 3 * n) behind_third d in
    Split first second third fourth

-- those of the blocks of a picture, behind these squares of the blocks before
unfoldable pub trees_with_vectors : Distances → List Site → List Square → List Tree → List Tree
trees_with_vectors distances [] done trees = []
trees_with_vectors distances (site ∷ sites) done [] = []
trees_with_vectors distances (site ∷ sites) done (tree ∷ trees) =
    let here : Tree =
    tree_with_vectors distances (look_picture site done) greatest_size 0 [] tree in
    here ∷ trees_with_vectors distances sites (after greatest_size done here) trees

-- ---- plans, whose units know their vectors

abbrev pub plan_with_vectors : Plan → Plan
plan_with_vectors plan = record plan { units = map unit_with_vector plan.units }

abbrev pub edges_with_vectors : Option UnitEdges → Option UnitEdges
edges_with_vectors None = None
edges_with_vectors (Some edges) = Some (record {
  right = map unit_with_vector edges.right;
  bottom = map unit_with_vector edges.bottom;
})

abbrev pub around_with_vectors : UnitsAround → UnitsAround
around_with_vectors around = record {
  left = edges_with_vectors around.left;
  above_left = edges_with_vectors around.above_left;
  above = edges_with_vectors around.above;
  above_right = edges_with_vectors around.above_right;
}
