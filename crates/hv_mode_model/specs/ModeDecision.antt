-- What the encoder chooses for a coding tree block: which nodes are split, how each coding unit is
-- predicted, and its levels. H.265 leaves it free. A node is chosen behind what was chosen before,
-- and the first of least cost is taken. The trees here are those with vectors: in each unit that is
-- predicted from another picture its vector stands in the place of the coded difference.
use Rattle.std.specs.Prelude.{ℕ, zero, suc, ◌+◌, ◌*◌, ◌/◌, ◌^◌, Bool, true, false, cond, nat_eq, nat_lt, nat_le, ◌&&◌, List, [], ◌∷◌, ◌++◌, length, map, sum, Option, Some, None, ℤ, pos, ◌-ℤ◌}
use Rattle.std.specs.Int.{abs_diff}
use Rattle.std.specs.Int.RustNames.{unsigned_abs}
use Rattle.hv_lemmas.specs.Lists.{tabulate}
use Rattle.hv_tables.specs.declared.bins.SliceKind.{SliceKind}
use Rattle.hv_tables.specs.declared.bins.SliceKind.TheVariants.{I, P}
use Rattle.hv_plan.specs.declared.prediction.Mv.{Mv}
use Rattle.hv_types.specs.declared.picture.Picture.{Picture}
use Rattle.hv_types.specs.Samples.{Plane, sample_at}
use Rattle.hv_tables.specs.Quantisers.{chroma_qp}
use Rattle.hv_sample_model.specs.Blocks.{square, total_of}
use Rattle.hv_sample_model.specs.Quantisation.{levels}
use Rattle.hv_tree_model.specs.Trees.{Prediction, Intra, Inter, TransformUnit, Tree, Leaf, Split, Outside, side, greatest_size, log2TrafoSize, no_units}
use Rattle.hv_tree_model.specs.Sites.{Site, squares, x0, y0, is_outside, must_split}
use Rattle.hv_tree_model.specs.EarlierUnits.{Square as UnitSquare, after, Surroundings, in_picture}
use Rattle.hv_tree_model.specs.MostProbableModes.{planar, dc, candidates}
use Rattle.hv_unit_model.specs.BlockSyntax.{is_intra}
use Rattle.hv_unit_model.specs.Bins.{luma_mode_bins, mvd_bins, bins_of_node}
use Rattle.hv_recon_model.specs.Reconstruction.{Component, Decoded, Square, square_at, luma_planes, cb_planes, cr_planes, chroma_of, quarter, predicted_block, decoded_unit, decoded_tree, sample_of}
use Rattle.hv_filter_model.specs.Costs.{cost, first_least}
use Rattle.hv_vector_model.specs.VectorPrediction.{Distances}
use Rattle.hv_vector_model.specs.Vectors.{neighbourhood_of, moved_by}
use Rattle.hv_mode_model.specs.Differences.{candidate, difference, tree_with_differences, trees_with_differences}

-- ---- what is given, and what was chosen before

-- What motion search found: the vector for an entry of list 0, and the node that begins in a column
-- of a row and has a side, these in luma samples. None where nothing is searched.
abbrev pub FoundVectors : Type 0
FoundVectors = ℕ → ℕ → ℕ → ℕ → Option Mv

abbrev pub nothing_found : FoundVectors
nothing_found entry x y side = None

-- what is given for a coding tree block
pub record Given : Type 0 where
  -- how much is tried: 0 to 2
  pub effort : ℕ
  -- SliceQpY
  pub qp : ℕ
  -- the padded picture that is encoded
  pub input : Picture
  -- the slice, the block's place, and the units of the blocks before, which have vectors
  pub surroundings : Surroundings
  -- to each entry of list 0
  pub distances : Distances
  pub vectors : FoundVectors

-- where a choice begins
pub record Before : Type 0 where
  -- the picture before the in-loop filters, as far as it is decoded, and its reference pictures
  pub decoded : Decoded
  -- the squares of the block that were chosen so far, which have vectors
  pub earlier : List UnitSquare

-- the value that is there, else another
abbrev pub or_else : {A : Type 0} → A → Option A → A
or_else other None = other
or_else other (Some value) = value

-- what is decoded behind a node with this tree
abbrev pub decoded_behind : Given → ℕ → ℕ → Tree → Decoded → Decoded
decoded_behind g size address tree d =
    let site = g.surroundings.site in
    or_else d (decoded_tree g.qp size (x0 site address) (y0 site address) tree d)

abbrev pub behind : Given → ℕ → ℕ → Tree → Before → Before
behind g size address tree before = record {
  decoded = decoded_behind g size address tree before.decoded;
  earlier = after size before.earlier tree;
}

-- the luma samples of a node
abbrev pub node_square : Given → ℕ → ℕ → Square
node_square g size address =
    square_at (x0 g.surroundings.site address) (y0 g.surroundings.site address) (size + 3)

-- ---- the levels of a coding unit

-- what a block is predicted as, by rows, with these planes of the reference pictures
abbrev pub predicted_samples : Prediction → Bool → List Plane → Component → Square → List ℕ
predicted_samples prediction is_luma planes samples s =
    or_else [] (predicted_block prediction is_luma planes samples s)

-- what a plane has of a block, by rows
abbrev pub block_samples : Plane → Square → List ℕ
block_samples plane s = square s.log2 (λ x y. sample_at plane (s.x + x) (s.y + y))

-- input minus prediction, by rows
abbrev pub differences : List ℕ → List ℕ → List ℤ
differences [] predicted = []
differences (a ∷ samples) [] = []
differences (a ∷ samples) (p ∷ predicted) = (pos a -ℤ pos p) ∷ differences samples predicted

-- the levels of a block, by rows: those of what its prediction leaves
unfoldable pub chosen_levels :
    Prediction → Bool → ℕ → Plane → List Plane → Component → Square → List ℤ
chosen_levels prediction is_luma qp input planes samples s =
    levels s.log2 qp (is_intra prediction)
    (differences (block_samples input s) (predicted_samples prediction is_luma planes samples s))

-- those of a transform unit, each component predicted from its own samples
abbrev pub chosen_unit : Given → Prediction → Square → Decoded → TransformUnit
chosen_unit g prediction s d = record {
  luma = chosen_levels prediction true g.qp g.input.luma (luma_planes d.references) d.luma s;
  cb =
      chosen_levels prediction false (chroma_qp g.qp) g.input.cb (cb_planes d.references) d.cb
      (chroma_of s);
  cr =
      chosen_levels prediction false (chroma_qp g.qp) g.input.cr (cr_planes d.references) d.cr
      (chroma_of s);
}

-- so many quarters of a unit of 64x64, from quarter i on, each behind the earlier ones
abbrev pub chosen_quarters : Given → Prediction → Square → ℕ → ℕ → Decoded → List TransformUnit
chosen_quarters g prediction s i zero d = []
chosen_quarters g prediction s i (suc count) d =
    let unit = chosen_unit g prediction (quarter s i) d in
    unit ∷
    chosen_quarters g prediction s (suc i) count
    (or_else d (decoded_unit g.qp prediction (quarter s i) unit d))

abbrev pub chosen_units : Given → Prediction → ℕ → Square → Decoded → List TransformUnit
chosen_units g prediction size s d =
    cond (nat_lt size greatest_size)
    (chosen_unit g prediction s d ∷ [])
    (chosen_quarters g prediction s 0 4 d)

-- a coding unit that is predicted so
unfoldable pub leaf : Given → ℕ → ℕ → Before → Prediction → Tree
leaf g size address before prediction =
    Leaf prediction (chosen_units g prediction size (node_square g size address) before.decoded)

-- ---- the luma mode of an intra unit

-- The modes that are tried are planar, and then these.
abbrev pub further_modes : ℕ → List ℕ
further_modes effort =
    cond (nat_lt effort 2) (1 ∷ 10 ∷ 26 ∷ []) (tabulate 34 (λ mode. mode + 1))

-- the first transform block of a unit
abbrev pub first_block : Given → ℕ → ℕ → Square
first_block g size address =
    square_at (x0 g.surroundings.site address) (y0 g.surroundings.site address) (log2TrafoSize size)

-- the sum of absolute differences of input and prediction in the unit's first luma block
abbrev pub absolute_differences : Given → ℕ → ℕ → Before → ℕ → ℕ
absolute_differences g size address before mode =
    let s = first_block g size address in
    sum (map unsigned_abs (differences (block_samples g.input.luma s)
    (predicted_samples (Intra mode) true [] before.decoded.luma s)))

-- how many bins the mode takes
abbrev pub mode_bins : Given → ℕ → Before → ℕ → ℕ
mode_bins g address before mode =
    length (luma_mode_bins (candidates g.surroundings address before.earlier) mode)

-- the weight of such a bin at a quantiser, in absolute differences
abbrev pub mode_bin_weight : ℕ → ℕ
mode_bin_weight qp = 2 ^ (qp / 6) / 4

unfoldable pub score : Given → ℕ → ℕ → Before → ℕ → ℕ
score g size address before mode =
    absolute_differences g size address before mode +
    mode_bins g address before mode * mode_bin_weight g.qp

-- the first of least score
unfoldable pub luma_mode : Given → ℕ → ℕ → Before → ℕ
luma_mode g size address before =
    first_least (score g size address before) planar (further_modes g.effort)

-- ---- units that are predicted from another picture

abbrev pub has_list_0 : SliceKind → Bool
has_list_0 I = false
has_list_0 P = true

-- A unit may name an entry: in a P slice of at most two, where there is a picture.
abbrev pub may_name : Given → Before → ℕ → Bool
may_name g before entry =
    has_list_0 g.surroundings.slice_type && nat_le g.surroundings.references 2 &&
    nat_lt entry g.surroundings.references && nat_lt entry (length before.decoded.references)

-- one of the two candidates for the vector of a unit (8.5.3.2.6)
abbrev pub candidate_at : Given → ℕ → ℕ → Before → ℕ → ℕ → Mv
candidate_at g size address before entry flag =
    candidate g.distances (neighbourhood_of g.surroundings.look size address before.earlier) entry
    flag

-- how many bins the difference of a vector from it takes
abbrev pub difference_bins : Given → ℕ → ℕ → Before → ℕ → Mv → ℕ → ℕ
difference_bins g size address before entry mv flag =
    length (mvd_bins (difference mv (candidate_at g size address before entry flag)))

-- mvp_l0_flag: the first of fewest bins
unfoldable pub predictor : Given → ℕ → ℕ → Before → ℕ → Mv → ℕ
predictor g size address before entry mv =
    first_least (difference_bins g size address before entry mv) 0 (1 ∷ [])

-- The unit moves by what a decoder makes of candidate and difference: that is the vector again,
-- where it has 16 bits.
abbrev pub inter_from : Mv → Mv → ℕ → ℕ → Prediction
inter_from mvpL0 mv entry flag =
    Inter (record {
      ref_idx_l0 = entry;
      mvp_l0_flag = flag;
      MvdL0 = moved_by mvpL0 (difference mv mvpL0);
    })

abbrev pub inter_unit : Given → ℕ → ℕ → Before → ℕ → Mv → Prediction
inter_unit g size address before entry mv =
    let flag = predictor g size address before entry mv in
    inter_from (candidate_at g size address before entry flag) mv entry flag

-- with the vector that was found, if any
abbrev pub inter_by : Given → ℕ → ℕ → Before → ℕ → Option Mv → List Prediction
inter_by g size address before entry None = []
inter_by g size address before entry (Some mv) =
    cond (may_name g before entry) (inter_unit g size address before entry mv ∷ []) []

abbrev pub inter_at : Given → ℕ → ℕ → Before → ℕ → List Prediction
inter_at g size address before entry =
    inter_by g size address before entry
    (g.vectors entry (x0 g.surroundings.site address) (y0 g.surroundings.site address) (side size))

-- ---- the cost of a tree at a node

-- the squared difference of two samples
abbrev pub squared_difference : ℕ → ℕ → ℕ
squared_difference a b = abs_diff a b * abs_diff a b

-- those of input and decoded samples, over a block
abbrev pub squared_differences : Plane → Component → Square → ℕ
squared_differences input samples s =
    total_of (2 ^ s.log2) (λ y. total_of (2 ^ s.log2) (λ x.
    squared_difference (sample_at input (s.x + x) (s.y + y))
    (sample_of (samples (s.x + x) (s.y + y)))))

-- in a block of luma and the blocks of Cb and Cr under it
unfoldable pub squared_errors : Picture → Decoded → Square → ℕ
squared_errors input d s =
    squared_differences input.luma d.luma s +
    squared_differences input.cb d.cb (chroma_of s) +
    squared_differences input.cr d.cr (chroma_of s)

-- what is coded of it: differences in the place of its vectors
abbrev pub coded_node : Given → ℕ → ℕ → Before → Tree → Tree
coded_node g size address before tree =
    tree_with_differences g.distances g.surroundings.look size address before.earlier tree

-- how many bins its coding quadtree takes, split_cu_flag with it
abbrev pub node_bins : Given → ℕ → ℕ → Before → Tree → ℕ
node_bins g size address before tree =
    length
    (bins_of_node g.surroundings size address before.earlier
    (coded_node g size address before tree))

unfoldable pub cost_of : Given → ℕ → ℕ → Before → Tree → ℕ
cost_of g size address before tree =
    cost g.qp
    (squared_errors g.input (decoded_behind g size address tree before.decoded)
    (node_square g size address))
    (node_bins g size address before tree)

-- ---- the choice at a node

-- the predictions that are tried for a coding unit, in this order: from entry 0 of list 0, from
-- entry 1, and from its own picture
abbrev pub predictions : Given → ℕ → ℕ → Before → List Prediction
predictions g size address before =
    inter_at g size address before 0 ++
    (inter_at g size address before 1 ++ Intra (luma_mode g size address before) ∷ [])

-- of trees, the first of least cost
abbrev pub least_of : Given → ℕ → ℕ → Before → List Tree → Tree
least_of g size address before [] = Outside
least_of g size address before (tree ∷ trees) =
    first_least (cost_of g size address before) tree trees

-- a node that may be a coding unit, and may be split into these: at effort 0 it is a unit of mode
-- DC whose levels are all 0
unfoldable pub chosen : Given → ℕ → ℕ → Before → List Tree → Tree
chosen g size address before splits =
    cond (nat_eq g.effort 0) (Leaf (Intra dc) (no_units size))
    (least_of g size address before
    (map (leaf g size address before) (predictions g size address before) ++ splits))

-- a node of this size that is split: its parts in z-scan order, each chosen behind the earlier ones
abbrev pub split_of : Given → ℕ → ℕ → Before → (ℕ → Before → Tree) → Tree
split_of g size address before choose =
    let n = squares size in
    let a = choose address before in
    let behind_a = behind g size address a before in
    let b = choose (address + n) behind_a in
    let behind_b = behind g size (address + n) b behind_a in
    let c = choose (address + 2 * n) behind_b in
    let behind_c = behind g size (address + 2 * n) c behind_b in
    Split a b c (choose (address + 3 * n) behind_c)

-- the tree of a node of this size at this address
unfoldable pub best : Given → ℕ → ℕ → Before → Tree
best g zero address before =
    cond (is_outside g.surroundings.site address) Outside (chosen g zero address before [])
best g (suc size) address before =
    let split = split_of g size address before (best g size) in
    cond (is_outside g.surroundings.site address) Outside
    (cond (must_split g.surroundings.site (suc size) address) split
    (chosen g (suc size) address before (split ∷ [])))

-- ---- the choice for a picture

-- what is given for all its blocks
pub record Task : Type 0 where
  pub effort : ℕ
  pub qp : ℕ
  pub input : Picture
  pub slice_type : SliceKind
  -- num_ref_idx_l0_active_minus1 + 1
  pub references : ℕ
  -- to each entry of list 0
  pub distances : Distances
  pub vectors : FoundVectors

-- for a block behind these squares of all blocks before, which have vectors
abbrev pub given_at : Task → Site → List UnitSquare → Given
given_at task site done = record {
  effort = task.effort;
  qp = task.qp;
  input = task.input;
  surroundings = in_picture task.slice_type task.references site done;
  distances = task.distances;
  vectors = task.vectors;
}

abbrev pub best_tree : Task → Site → List UnitSquare → Decoded → Tree
best_tree task site done d =
    best (given_at task site done) greatest_size 0 (record { decoded = d; earlier = [] })

-- the trees of blocks in raster order, each behind the earlier ones, with vectors
unfoldable pub best_trees : Task → List Site → List UnitSquare → Decoded → List Tree
best_trees task [] done d = []
best_trees task (site ∷ sites) done d =
    let tree = best_tree task site done d in
    tree ∷
    best_trees task sites (after greatest_size done tree)
    (decoded_behind (given_at task site done) greatest_size 0 tree d)

-- what is decoded behind them
unfoldable pub best_decoded : Task → List Site → List UnitSquare → Decoded → Decoded
best_decoded task [] done d = d
best_decoded task (site ∷ sites) done d =
    let tree = best_tree task site done d in
    best_decoded task sites (after greatest_size done tree)
    (decoded_behind (given_at task site done) greatest_size 0 tree d)

-- what is coded of the blocks
abbrev pub coded_trees : Task → List Site → List UnitSquare → Decoded → List Tree
coded_trees task sites done d =
    trees_with_differences task.distances sites done (best_trees task sites done d)
