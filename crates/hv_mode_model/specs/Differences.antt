-- What is coded of the vectors of units: each by its difference from a candidate (8.5.3.2.1). In a
-- tree with vectors MvL0 stands for MvdL0; in the coded tree the difference stands there.
use Rattle.std.specs.Prelude.{ℕ, zero, suc, ◌+◌, ◌*◌, List, [], ◌∷◌, slice_index_or, ◌-ℤ◌}
use Rattle.std.specs.Int.{w16, int_wrap}
use Rattle.hv_plan.specs.declared.prediction.Mv.{Mv}
use Rattle.hv_tree_model.specs.Trees.{Motion, Prediction, Intra, Inter, Tree, Leaf, Split, Outside, greatest_size}
use Rattle.hv_tree_model.specs.Sites.{Site, squares}
use Rattle.hv_tree_model.specs.EarlierUnits.{Square, after, Look, look_picture}
use Rattle.hv_vector_model.specs.declared.motion.Neighbourhood.{Neighbourhood}
use Rattle.hv_vector_model.specs.VectorPrediction.{Distances, mvpListL0, no_vector}
use Rattle.hv_vector_model.specs.Vectors.{neighbourhood_of}

-- the candidate that mvp_l0_flag chooses
abbrev pub candidate : Distances → Neighbourhood → ℕ → ℕ → Mv
candidate distances n ref_idx_l0 mvp_l0_flag =
    slice_index_or (mvpListL0 distances ref_idx_l0 n) mvp_l0_flag no_vector

-- a vector less a candidate, modulo 2^16
abbrev pub difference : Mv → Mv → Mv
difference MvL0 mvpL0 = record {
  x = int_wrap w16 (MvL0.x -ℤ mvpL0.x);
  y = int_wrap w16 (MvL0.y -ℤ mvpL0.y);
}

abbrev pub difference_of : Distances → Neighbourhood → Motion → Mv
difference_of distances n motion =
    difference motion.MvdL0 (candidate distances n motion.ref_idx_l0 motion.mvp_l0_flag)

abbrev pub prediction_with_difference : Distances → Neighbourhood → Prediction → Prediction
prediction_with_difference distances n (Intra mode) = Intra mode
prediction_with_difference distances n (Inter motion) =
    Inter (record motion { MvdL0 = difference_of distances n motion })

-- what is coded of a node of this size at this address, whose tree has vectors, behind these
-- squares of its block, which have vectors
unfoldable pub tree_with_differences : Distances → Look → ℕ → ℕ → List Square → Tree → Tree
tree_with_differences distances look size address earlier Outside = Outside
tree_with_differences distances look size address earlier (Leaf prediction units) =
    Leaf
    (prediction_with_difference distances (neighbourhood_of look size address earlier) prediction)
    units
tree_with_differences distances look zero address earlier (Split a b c d) = Split a b c d
tree_with_differences distances look (suc size) address earlier (Split a b c d) =
    let n : ℕ = squares size in
    let behind_a : List Square = after size earlier a in
    let behind_b : List Square = after size behind_a b in
    let behind_c : List Square = after size behind_b c in
    Split
    (tree_with_differences distances look size address earlier a)
    (tree_with_differences distances look size (address + n) behind_a b)
    (tree_with_differences distances look size (address + 2 * n) behind_b c)
    (tree_with_differences distances look size (address + 3 * n) behind_c d)

-- what is coded of the blocks of a picture, behind these squares of the blocks before
unfoldable pub trees_with_differences : Distances → List Site → List Square → List Tree → List Tree
trees_with_differences distances [] done trees = []
trees_with_differences distances (site ∷ sites) done [] = []
trees_with_differences distances (site ∷ sites) done (tree ∷ trees) =
    tree_with_differences distances (look_picture site done) greatest_size 0 [] tree ∷
    trees_with_differences distances sites (after greatest_size done tree) trees
