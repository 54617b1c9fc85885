-- The bins of a node are the same in surroundings that see the same from the column and the row
-- before the block on: the contexts and the candidates of a mode ask for nothing else.
use Rattle.std.proofs.Common.{◌≡◌, ℕ, zero, suc, ◌+◌, ◌*◌, ◌<◌, ◌≤◌, Bool, true, false, cond, List, [], ◌∷◌, ◌++◌, length, length-append, refl, ap, ap₂, arith}
use Rattle.std.specs.Prelude.{nat_eq}
use Rattle.std.proofs.lemmas.List.{length-replicate}
use Rattle.hv_tables.specs.declared.bins.SliceKind.{SliceKind}
use Rattle.hv_tables.specs.declared.bins.CtxTable.TheVariants.{Split as SplitTable, ChromaMode}
use Rattle.hv_tree_model.specs.Trees.{Prediction, Intra, Inter, TransformUnit, Tree, Leaf, Split, Outside, depth_of}
use Rattle.hv_tree_model.specs.Sites.{Site, squares, crosses, column_of, row_of}
use Rattle.hv_tree_model.specs.EarlierUnits.{Square, Unavailable, Coded, squares_of, Look, Surroundings, after, look_picture, left_of, above_of, lies_deeper}
use Rattle.hv_tree_model.specs.MostProbableModes.{dc, candIntraPredMode, candModeList, candidates}
use Rattle.hv_unit_model.specs.Bins.{bin, intra_part_bins, luma_mode_bins, transform_tree_bins, predicted_bins, coding_unit_bins, pred_mode_bins, split_bins, bins_of_node}
use Rattle.hv_tree_model.specs.Plans.{look_around}
use Rattle.hv_unit_model.specs.PlanLaws.{squares_before, BinsInBlockAreThoseInPicture}
use Rattle.hv_unit_model.proofs.AroundLemmas.{blocks_around}

column_below : (address : ℕ) → column_of address < 8
unfolding column_of
column_below address = omega arith

row_below : (address : ℕ) → row_of address < 8
unfolding row_of
row_below address = omega arith

-- ---- no node has more squares than its size

most-split : (size : ℕ) (a b c d : Tree) → length (squares_of size a) ≤ squares size →
    length (squares_of size b) ≤ squares size → length (squares_of size c) ≤ squares size →
    length (squares_of size d) ≤ squares size →
    length (squares_of (suc size) (Split a b c d)) ≤ squares (suc size)
most-split size a b c d first second third fourth =
    rw (
      length-append (squares_of size a) (squares_of size b ++
          (squares_of size c ++ squares_of size d)),
      length-append (squares_of size b) (squares_of size c ++ squares_of size d),
      length-append (squares_of size c) (squares_of size d),
    ) (omega (arith, first, second, third, fourth))

pub most_squares : (size : ℕ) (tree : Tree) → length (squares_of size tree) ≤ squares size
most_squares zero Outside = omega (arith, length-replicate (squares zero) Unavailable)
most_squares (suc size) Outside =
    omega (arith, length-replicate (squares (suc size)) Unavailable)
most_squares zero (Leaf prediction units) =
    omega (arith, length-replicate (squares zero) (Coded (depth_of zero) prediction))
most_squares (suc size) (Leaf prediction units) =
    omega (arith, length-replicate (squares (suc size)) (Coded (depth_of (suc size)) prediction))
most_squares zero (Split a b c d) = omega arith
most_squares (suc size) (Split a b c d) =
    most-split size a b c d (most_squares size a) (most_squares size b) (most_squares size c)
    (most_squares size d)

pub behind : (size : ℕ) (earlier : List Square) (tree : Tree) →
    length (after size earlier tree) ≤ length earlier + squares size
behind size earlier tree =
    omega (arith, length-append earlier (squares_of size tree), most_squares size tree)

-- ---- the same is seen

abbrev pub SeeTheSame : Look → Look → Type 0
SeeTheSame one other =
    (earlier : List Square) (column row : ℕ) → length earlier ≤ 64 → 7 ≤ column → column < 24 →
    7 ≤ row → row < 24 → one earlier column row ≡ other earlier column row

module _ (slice_type : SliceKind) (references : ℕ) (here : Site) (one other : Look)
    (same : SeeTheSame one other) where
  abbrev pub s : Surroundings
  s = record { slice_type = slice_type; references = references; site = here; look = one }

  abbrev pub t : Surroundings
  t = record { slice_type = slice_type; references = references; site = here; look = other }

  same_at_left : (address : ℕ) (earlier : List Square) → length earlier ≤ 64 →
      left_of s address earlier ≡ left_of t address earlier
  same_at_left address earlier few =
      let column = column_below address in
      let row = row_below address in
      same earlier (7 + column_of address) (8 + row_of address) few (omega (arith, column))
      (omega (arith, column)) (omega (arith, row)) (omega (arith, row))

  same_above : (address : ℕ) (earlier : List Square) → length earlier ≤ 64 →
      above_of s address earlier ≡ above_of t address earlier
  same_above address earlier few =
      let column = column_below address in
      let row = row_below address in
      same earlier (8 + column_of address) (7 + row_of address) few (omega (arith, column))
      (omega (arith, column)) (omega (arith, row)) (omega (arith, row))

  same_split : (size address : ℕ) (earlier : List Square) (value : Bool) → length earlier ≤ 64 →
      split_bins s size address earlier value ≡ split_bins t size address earlier value
  same_split zero address earlier value few = refl
  same_split (suc size) address earlier value few =
      ap₂ (λ l r. cond (crosses here (suc size) address) [] (bin SplitTable (lies_deeper (depth_of
      (suc size)) l + lies_deeper (depth_of (suc size)) r) value ∷ []))
      (same_at_left address earlier few) (same_above address earlier few)

  pub same_candidates : (address : ℕ) (earlier : List Square) → length earlier ≤ 64 →
      candidates s address earlier ≡ candidates t address earlier
  same_candidates address earlier few =
      ap₂ (λ l a. candModeList (candIntraPredMode l) (cond (nat_eq (row_of address) 0) dc
      (candIntraPredMode a)))
      (same_at_left address earlier few) (same_above address earlier few)

  same_predicted : (size address : ℕ) (earlier : List Square) (prediction : Prediction)
      (units : List TransformUnit) → length earlier ≤ 64 →
      predicted_bins s size address earlier prediction units ≡
      predicted_bins t size address earlier prediction units
  unfolding predicted_bins
  same_predicted size address earlier (Intra mode) units few =
      ap (λ (list : List ℕ). intra_part_bins size ++ (luma_mode_bins list mode ++
      (bin ChromaMode 0 false ∷ transform_tree_bins (Intra mode) size units)))
      (same_candidates address earlier few)
  same_predicted size address earlier (Inter motion) units few = refl

  same_leaf : (size address : ℕ) (earlier : List Square) (prediction : Prediction)
      (units : List TransformUnit) → length earlier ≤ 64 →
      split_bins s size address earlier false ++
      coding_unit_bins s size address earlier prediction units ≡
      split_bins t size address earlier false ++
      coding_unit_bins t size address earlier prediction units
  same_leaf size address earlier prediction units few =
      ap₂ (λ l r. l ++ (pred_mode_bins slice_type prediction ++ r))
      (same_split size address earlier false few)
      (same_predicted size address earlier prediction units few)

  pub same_bins : (size address : ℕ) (earlier : List Square) (tree : Tree) →
      length earlier + squares size ≤ 64 →
      bins_of_node s size address earlier tree ≡ bins_of_node t size address earlier tree
  unfolding bins_of_node
  same_bins zero address earlier Outside few = refl
  same_bins (suc size) address earlier Outside few = refl
  same_bins zero address earlier (Leaf prediction units) few =
      same_leaf zero address earlier prediction units (omega (arith, few))
  same_bins (suc size) address earlier (Leaf prediction units) few =
      same_leaf (suc size) address earlier prediction units (omega (arith, few))
  same_bins zero address earlier (Split a b c d) few = refl
  same_bins (suc size) address earlier (Split a b c d) few =
      let n : ℕ = squares size in
      let behind_a : List Square = after size earlier a in
      let behind_b : List Square = after size behind_a b in
      let behind_c : List Square = after size behind_b c in
      let la = behind size earlier a in
      let lb = behind size behind_a b in
      let lc = behind size behind_b c in
      let flag = same_split (suc size) address earlier true (omega (arith, few)) in
      let first = same_bins size address earlier a (omega (arith, few)) in
      let second = same_bins size (address + n) behind_a b (omega (arith, few, la)) in
      let third = same_bins size (address + 2 * n) behind_b c (omega (arith, few, la, lb)) in
      let fourth = same_bins size (address + 3 * n) behind_c d (omega (arith, few, la, lb, lc)) in
      λ i. flag i ++ (first i ++ (second i ++ (third i ++ fourth i)))

pub bins_in_block : BinsInBlockAreThoseInPicture
bins_in_block slice_type references here plans around size address earlier tree before lies few =
    same_bins slice_type references here (look_around here around)
    (look_picture here (squares_before here plans))
    (λ e column row short left right top low.
    blocks_around here plans around e column row before lies short left right top low)
    size address earlier tree few
