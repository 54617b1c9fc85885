-- Trees of intra units alone, which may be coded in an I slice: they have no vectors, and what they
-- decode to asks for no reference picture.
use Rattle.std.proofs.Common.{◌≡◌, ℕ, zero, suc, ◌+◌, ◌*◌, ◌/◌, ◌%◌, Bool, false, List, [], ◌∷◌, replicate, refl, ap, ◌∙◌}
use Rattle.std.specs.Prelude.{Option, Some, None, option_and_then, option_map, slice_index_or}
use Rattle.hv_tables.specs.declared.bins.SliceKind.TheVariants.{I}
use Rattle.hv_types.specs.declared.picture.Picture.{Picture}
use Rattle.hv_plan.specs.declared.prediction.Mv.{Mv}
use Rattle.hv_tree_model.specs.Trees.{Intra, Inter, TransformUnit, Tree, Leaf, Split, Outside, side, greatest_size, depth_of}
use Rattle.hv_tree_model.specs.Sites.{Site, squares, blocks_over, address_of}
use Rattle.hv_tree_model.specs.EarlierUnits.{Square, Unavailable, Coded, after, squares_of, Look, look_picture}
use Rattle.hv_tree_model.specs.Validity.{IsValidNode}
use Rattle.hv_vector_model.specs.VectorPrediction.{Distances}
use Rattle.hv_vector_model.specs.Vectors.{tree_with_vectors, trees_with_vectors}
use Rattle.hv_recon_model.specs.Reconstruction.{Decoded, Square as BlockSquare, quarter, decoded_block, decoded_unit, decoded_quarters, decoded_units, decoded_tree, decoded_trees}
use Rattle.hv_recon_model.specs.ReconstructionLaws.{AreTrees}
use Rattle.hv_filter_model.proofs.CostLemmas.{Each, each_append}
use Rattle.hv_deblock_model.specs.TreeSquares.{Vectors, square_coding, levels_of, squares_of_trees}

-- ---- squares that have no vector

abbrev pub IsIntra : Square → Type 0
IsIntra Unavailable = Unit {0}
IsIntra (Coded depth (Intra mode)) = Unit {0}
IsIntra (Coded depth (Inter motion)) = ⊥

all_intra : (n : ℕ) (square : Square) → IsIntra square → Each IsIntra (replicate n square)
all_intra zero square is = tt
all_intra (suc n) square is = (is, all_intra n square is)

intra_at : (list : List Square) (i : ℕ) → Each IsIntra list →
    IsIntra (slice_index_or list i Unavailable)
intra_at [] i each = tt
intra_at (square ∷ list) zero each = each.0
intra_at (square ∷ list) (suc i) each = intra_at list i each.1

-- of a node that may be coded in an I slice
node_intra : (references : ℕ) (here : Site) (size address : ℕ) (tree : Tree) →
    IsValidNode I references here size address tree → Each IsIntra (squares_of size tree)
unfolding IsValidNode
node_intra references here zero address Outside valid = all_intra (squares 0) Unavailable tt
node_intra references here (suc size) address Outside valid =
    all_intra (squares (suc size)) Unavailable tt
node_intra references here zero address (Leaf (Intra mode) units) valid =
    all_intra (squares 0) (Coded (depth_of 0) (Intra mode)) tt
node_intra references here (suc size) address (Leaf (Intra mode) units) valid =
    all_intra (squares (suc size)) (Coded (depth_of (suc size)) (Intra mode)) tt
node_intra references here zero address (Leaf (Inter motion) units) valid = absurd valid.2
node_intra references here (suc size) address (Leaf (Inter motion) units) valid = absurd valid.2
node_intra references here zero address (Split a b c d) valid = absurd valid
node_intra references here (suc size) address (Split a b c d) valid =
    each_append IsIntra (squares_of size a) _ (node_intra references here size _ a valid.1)
    (each_append IsIntra (squares_of size b) _ (node_intra references here size _ b valid.2)
    (each_append IsIntra (squares_of size c) (squares_of size d)
    (node_intra references here size _ c valid.3)
    (node_intra references here size _ d valid.4)))

-- of any tree of a picture
pub square_intra : (references : ℕ) (places : List Site) (trees : List Tree) →
    AreTrees I references places trees → (k i : ℕ) →
    IsIntra
    (slice_index_or (squares_of greatest_size (slice_index_or trees k Outside)) i Unavailable)
square_intra references [] [] are k i =
    intra_at (squares_of greatest_size Outside) i (all_intra (squares greatest_size) Unavailable tt)
square_intra references [] (tree ∷ trees) are k i = absurd are
square_intra references (here ∷ places) [] are k i = absurd are
square_intra references (here ∷ places) (tree ∷ trees) are zero i =
    intra_at (squares_of greatest_size tree) i (node_intra references here greatest_size 0 tree are.0)
square_intra references (here ∷ places) (tree ∷ trees) are (suc k) i =
    square_intra references places trees are.1 k i

-- so they are coded alike, whatever vectors they are said to have
coding_same : (a b : Mv) (has_levels : Bool) (square : Square) → IsIntra square →
    square_coding a has_levels square ≡ square_coding b has_levels square
coding_same a b has_levels Unavailable is = refl
coding_same a b has_levels (Coded depth (Intra mode)) is = refl
coding_same a b has_levels (Coded depth (Inter motion)) is = absurd is

pub any_vectors : (references : ℕ) (places : List Site) (trees : List Tree) (width : ℕ)
    (some others : Vectors) → AreTrees I references places trees →
    squares_of_trees width some trees ≡ squares_of_trees width others trees
any_vectors references places trees width some others are = λ i column row.
    let k : ℕ = row / 8 * blocks_over width + column / 8 in
    let address : ℕ = address_of (column % 8) (row % 8) in
    let tree : Tree = slice_index_or trees k Outside in
    coding_same (some column row) (others column row)
    (slice_index_or (levels_of greatest_size tree) address false)
    (slice_index_or (squares_of greatest_size tree) address Unavailable)
    (square_intra references places trees are k address) i

-- ---- trees with vectors

-- no unit of a node gets one
node_stays : (references : ℕ) (here : Site) (size address : ℕ) (tree : Tree) →
    IsValidNode I references here size address tree → (distances : Distances) (look : Look)
    (earlier : List Square) → tree_with_vectors distances look size address earlier tree ≡ tree
unfolding IsValidNode tree_with_vectors
node_stays references here zero address Outside valid distances look earlier = refl
node_stays references here (suc size) address Outside valid distances look earlier = refl
node_stays references here zero address (Leaf (Intra mode) units) valid distances look earlier =
    refl
node_stays references here (suc size) address (Leaf (Intra mode) units) valid distances look
    earlier = refl
node_stays references here zero address (Leaf (Inter motion) units) valid distances look earlier =
    absurd valid.2
node_stays references here (suc size) address (Leaf (Inter motion) units) valid distances look
    earlier = absurd valid.2
node_stays references here zero address (Split a b c d) valid distances look earlier =
    absurd valid
node_stays references here (suc size) address (Split a b c d) valid distances look earlier =
    let n : ℕ = squares size in
    let moved : ℕ → List Square → Tree → Tree = tree_with_vectors distances look size in
    let behind_a : List Square = after size earlier (moved address earlier a) in
    let behind_b : List Square = after size behind_a (moved (address + n) behind_a b) in
    let behind_c : List Square = after size behind_b (moved (address + 2 * n) behind_b c) in
    let first = node_stays references here size address a valid.1 distances look earlier in
    let second = node_stays references here size (address + n) b valid.2 distances look
    behind_a in
    let third = node_stays references here size (address + 2 * n) c valid.3 distances look
    behind_b in
    let fourth = node_stays references here size (address + 3 * n) d valid.4 distances look
    behind_c in
    λ i. Split (first i) (second i) (third i) (fourth i)

pub trees_stay : (references : ℕ) (places : List Site) (trees : List Tree) →
    AreTrees I references places trees → (distances : Distances) (done : List Square) →
    trees_with_vectors distances places done trees ≡ trees
unfolding trees_with_vectors
trees_stay references [] [] are distances done = refl
trees_stay references [] (tree ∷ trees) are distances done = absurd are
trees_stay references (here ∷ places) [] are distances done = absurd are
trees_stay references (here ∷ places) (tree ∷ trees) are distances done =
    let first = node_stays references here greatest_size 0 tree are.0 distances
    (look_picture here done) [] in
    let others = trees_stay references places trees are.1 distances
    (after greatest_size done
    (tree_with_vectors distances (look_picture here done) greatest_size 0 [] tree)) in
    λ i. first i ∷ others i

-- ---- reference pictures

abbrev pub with_references : List Picture → Decoded → Decoded
with_references references d = record d { references = references }

-- a step of decoding that asks for none
abbrev AsksForNone : (Decoded → Option Decoded) → Type 0
AsksForNone step =
    (references : List Picture) (d : Decoded) →
    step (with_references references d) ≡ option_map (with_references references) (step d)

then : (step : Decoded → Option Decoded) → AsksForNone step → (references : List Picture)
    (before : Option Decoded) →
    option_and_then step (option_map (with_references references) before) ≡
    option_map (with_references references) (option_and_then step before)
then step none references None = refl
then step none references (Some d) = none references d

-- behind a step that asks for none
both : (first second : Decoded → Option Decoded) → AsksForNone first → AsksForNone second →
    AsksForNone (λ d. option_and_then second (first d))
both first second none_first none_second references d =
    ap (option_and_then second) (none_first references d) ∙
    then second none_second references (first d)

unit_asks : (qp mode : ℕ) (s : BlockSquare) (t : TransformUnit) →
    AsksForNone (decoded_unit qp (Intra mode) s t)
unfolding decoded_block
unit_asks qp mode s t references d = refl

quarters_ask : (qp mode : ℕ) (s : BlockSquare) (i : ℕ) (units : List TransformUnit) →
    AsksForNone (decoded_quarters qp (Intra mode) s i units)
quarters_ask qp mode s i [] = λ references d. refl
quarters_ask qp mode s i (t ∷ units) =
    both (decoded_unit qp (Intra mode) (quarter s i) t)
    (decoded_quarters qp (Intra mode) s (suc i) units)
    (unit_asks qp mode (quarter s i) t) (quarters_ask qp mode s (suc i) units)

units_ask : (qp mode : ℕ) (s : BlockSquare) (units : List TransformUnit) →
    AsksForNone (decoded_units qp (Intra mode) s units)
units_ask qp mode s [] = λ references d. refl
units_ask qp mode s (t ∷ []) = unit_asks qp mode s t
units_ask qp mode s (t ∷ u ∷ units) = quarters_ask qp mode s 0 (t ∷ u ∷ units)

node_asks : (qp references : ℕ) (here : Site) (size address : ℕ) (tree : Tree) →
    IsValidNode I references here size address tree → (x y : ℕ) →
    AsksForNone (decoded_tree qp size x y tree)
unfolding IsValidNode decoded_tree
node_asks qp references here zero address Outside valid x y = λ pictures d. refl
node_asks qp references here (suc size) address Outside valid x y = λ pictures d. refl
node_asks qp references here zero address (Leaf (Intra mode) units) valid x y =
    units_ask qp mode _ units
node_asks qp references here (suc size) address (Leaf (Intra mode) units) valid x y =
    units_ask qp mode _ units
node_asks qp references here zero address (Leaf (Inter motion) units) valid x y =
    absurd valid.2
node_asks qp references here (suc size) address (Leaf (Inter motion) units) valid x y =
    absurd valid.2
node_asks qp references here zero address (Split a b c e) valid x y = absurd valid
node_asks qp references here (suc size) address (Split a b c e) valid x y =
    let half : ℕ = side size in
    let n : ℕ = squares size in
    both
    (λ d. option_and_then (decoded_tree qp size x (y + half) c)
    (option_and_then (decoded_tree qp size (x + half) y b) (decoded_tree qp size x y a d)))
    (decoded_tree qp size (x + half) (y + half) e)
    (both
    (λ d. option_and_then (decoded_tree qp size (x + half) y b) (decoded_tree qp size x y a d))
    (decoded_tree qp size x (y + half) c)
    (both (decoded_tree qp size x y a) (decoded_tree qp size (x + half) y b)
    (node_asks qp references here size address a valid.1 x y)
    (node_asks qp references here size (address + n) b valid.2 (x + half) y))
    (node_asks qp references here size (address + 2 * n) c valid.3 x (y + half)))
    (node_asks qp references here size (address + 3 * n) e valid.4 (x + half) (y + half))

pub trees_ask : (qp references : ℕ) (places : List Site) (trees : List Tree) →
    AreTrees I references places trees → AsksForNone (decoded_trees qp places trees)
unfolding decoded_trees
trees_ask qp references [] trees are = λ pictures d. refl
trees_ask qp references (here ∷ places) [] are = λ pictures d. refl
trees_ask qp references (here ∷ places) (tree ∷ trees) are =
    both (decoded_tree qp greatest_size _ _ tree) (decoded_trees qp places trees)
    (node_asks qp references here greatest_size 0 tree are.0 _ _)
    (trees_ask qp references places trees are.1)
