-- Bins and the most probable modes don't read vectors: they are the same by squares that differ in
-- their vectors alone (7.3.8.4, 8.4.2, 9.3.4.2.2).
use Rattle.std.proofs.Common.{◌≡◌, ℕ, zero, suc, ◌+◌, ◌*◌, ◌-◌, ◌<◌, Bool, true, false, cond, List, [], ◌∷◌, ◌++◌, length, map, refl, sym, ap, ap₂, ◌∙◌, arith}
use Rattle.std.specs.Prelude.{nat_eq, nat_lt, ◌&&◌, slice_get, slice_index_or, Option, Some, None, option_map}
use Rattle.std.proofs.lemmas.List.{map-append}
use Rattle.std.proofs.Math.ListN.{get_or-map}
use Rattle.std.proofs.lemmas.Option.{slice_get-map}
use Rattle.hv_lemmas.specs.Lists.{tabulate}
use Rattle.hv_lemmas.proofs.ListLemmas.{length-tabulate, get_or-tabulate, tabulate-same, tabulate_own}
use Rattle.hv_tables.specs.declared.bins.SliceKind.{SliceKind}
use Rattle.hv_tables.specs.declared.bins.CtxTable.TheVariants.{Split as SplitTable, ChromaMode}
use Rattle.hv_plan.specs.declared.prediction.Pred.{Pred}
use Rattle.hv_plan.specs.declared.prediction.Pred.TheVariants.{Intra as IntraPred, Inter as InterPred}
use Rattle.hv_plan.specs.declared.prediction.Unit.{Unit}
use Rattle.hv_inter_model.specs.UnitVectors.{pred_with_vector, unit_with_vector}
use Rattle.hv_tree_model.specs.Trees.{Prediction, Intra, Inter, TransformUnit, Tree, Leaf, Split, Outside, depth_of}
use Rattle.hv_tree_model.specs.Sites.{Site, address_of, squares, crosses, column_of, row_of, ctb_column, ctb_row, is_outside}
use Rattle.hv_tree_model.specs.EarlierUnits.{Square, Unavailable, Coded, squares_of, Look, Surroundings, after, lies_deeper}
use Rattle.hv_tree_model.specs.MostProbableModes.{dc, candIntraPredMode, candModeList, candidates}
use Rattle.hv_tree_model.specs.Plans.{Plan, UnitEdges, UnitsAround, prediction_of, square_or_none, on_right, on_bottom, square_at_left, square_above, square_inside, square_around, is_in_picture, look_around}
use Rattle.hv_unit_model.specs.Bins.{bin, intra_part_bins, luma_mode_bins, transform_tree_bins, predicted_bins, coding_unit_bins, pred_mode_bins, split_bins, bins_of_node}
use Rattle.hv_vector_model.specs.VectorPrediction.{no_vector}
use Rattle.hv_vector_model.specs.Vectors.{plan_with_vectors, edges_with_vectors, around_with_vectors}
use Rattle.hv_near.specs.Squares.{Shows, own_square}

-- ---- squares without their vectors

abbrev still_prediction : Prediction → Prediction
still_prediction (Intra mode) = Intra mode
still_prediction (Inter motion) = Inter (record motion { MvdL0 = no_vector })

abbrev pub still : Square → Square
still Unavailable = Unavailable
still (Coded CtDepth prediction) = Coded CtDepth (still_prediction prediction)

abbrev pub Alike : List Square → List Square → Type 0
Alike xs ys = map still xs ≡ map still ys

abbrev pub LooksAlike : Look → Look → Type 0
LooksAlike one other =
    (xs ys : List Square) (column row : ℕ) → Alike xs ys →
    still (one xs column row) ≡ still (other ys column row)

still_depth : (depth : ℕ) (q : Square) → lies_deeper depth (still q) ≡ lies_deeper depth q
still_depth depth Unavailable = refl
still_depth depth (Coded CtDepth prediction) = refl

still_mode : (q : Square) → candIntraPredMode (still q) ≡ candIntraPredMode q
still_mode Unavailable = refl
still_mode (Coded CtDepth (Intra mode)) = refl
still_mode (Coded CtDepth (Inter motion)) = refl

same_depth : (depth : ℕ) (p q : Square) → still p ≡ still q →
    lies_deeper depth p ≡ lies_deeper depth q
same_depth depth p q same =
    sym (still_depth depth p) ∙ ap (lies_deeper depth) same ∙ still_depth depth q

same_mode : (p q : Square) → still p ≡ still q → candIntraPredMode p ≡ candIntraPredMode q
same_mode p q same = sym (still_mode p) ∙ ap candIntraPredMode same ∙ still_mode q

-- ---- bins

module _ (slice_type : SliceKind) (references : ℕ) (here : Site) (one other : Look)
    (alike : LooksAlike one other) where
  abbrev s : Surroundings
  s = record { slice_type = slice_type; references = references; site = here; look = one }

  abbrev t : Surroundings
  t = record { slice_type = slice_type; references = references; site = here; look = other }

  split_alike : (size address : ℕ) (xs ys : List Square) (value : Bool) → Alike xs ys →
      split_bins s size address xs value ≡ split_bins t size address ys value
  split_alike zero address xs ys value same = refl
  split_alike (suc size) address xs ys value same =
      ap₂ (λ (l r : ℕ).
      cond (crosses here (suc size) address) [] (bin SplitTable (l + r) value ∷ []))
      (same_depth (depth_of (suc size)) _ _
      (alike xs ys (7 + column_of address) (8 + row_of address) same))
      (same_depth (depth_of (suc size)) _ _
      (alike xs ys (8 + column_of address) (7 + row_of address) same))

  pub candidates_alike : (address : ℕ) (xs ys : List Square) → Alike xs ys →
      candidates s address xs ≡ candidates t address ys
  candidates_alike address xs ys same =
      ap₂ (λ (l a : ℕ). candModeList l (cond (nat_eq (row_of address) 0) dc a))
      (same_mode _ _ (alike xs ys (7 + column_of address) (8 + row_of address) same))
      (same_mode _ _ (alike xs ys (8 + column_of address) (7 + row_of address) same))

  predicted_alike : (size address : ℕ) (xs ys : List Square) (prediction : Prediction)
      (units : List TransformUnit) → Alike xs ys →
      predicted_bins s size address xs prediction units ≡
      predicted_bins t size address ys prediction units
  unfolding predicted_bins
  predicted_alike size address xs ys (Intra mode) units same =
      ap (λ (list : List ℕ). intra_part_bins size ++ (luma_mode_bins list mode ++
      (bin ChromaMode 0 false ∷ transform_tree_bins (Intra mode) size units)))
      (candidates_alike address xs ys same)
  predicted_alike size address xs ys (Inter motion) units same = refl

  leaf_alike : (size address : ℕ) (xs ys : List Square) (prediction : Prediction)
      (units : List TransformUnit) → Alike xs ys →
      split_bins s size address xs false ++
      coding_unit_bins s size address xs prediction units ≡
      split_bins t size address ys false ++
      coding_unit_bins t size address ys prediction units
  leaf_alike size address xs ys prediction units same =
      ap₂ (λ l r. l ++ (pred_mode_bins slice_type prediction ++ r))
      (split_alike size address xs ys false same)
      (predicted_alike size address xs ys prediction units same)

  after_alike : (size : ℕ) (xs ys : List Square) (tree : Tree) → Alike xs ys →
      Alike (after size xs tree) (after size ys tree)
  after_alike size xs ys tree same =
      map-append still xs (squares_of size tree) ∙
      ap (λ l. l ++ map still (squares_of size tree)) same ∙
      sym (map-append still ys (squares_of size tree))

  pub bins_alike : (size address : ℕ) (xs ys : List Square) (tree : Tree) → Alike xs ys →
      bins_of_node s size address xs tree ≡ bins_of_node t size address ys tree
  unfolding bins_of_node
  bins_alike zero address xs ys Outside same = refl
  bins_alike (suc size) address xs ys Outside same = refl
  bins_alike zero address xs ys (Leaf prediction units) same =
      leaf_alike zero address xs ys prediction units same
  bins_alike (suc size) address xs ys (Leaf prediction units) same =
      leaf_alike (suc size) address xs ys prediction units same
  bins_alike zero address xs ys (Split a b c d) same = refl
  bins_alike (suc size) address xs ys (Split a b c d) same =
      let n : ℕ = squares size in
      let xa : List Square = after size xs a in
      let ya : List Square = after size ys a in
      let xb : List Square = after size xa b in
      let yb : List Square = after size ya b in
      let behind_a : Alike xa ya = after_alike size xs ys a same in
      let behind_b : Alike xb yb = after_alike size xa ya b behind_a in
      let behind_c : Alike (after size xb c) (after size yb c) =
      after_alike size xb yb c behind_b in
      let flag = split_alike (suc size) address xs ys true same in
      let first = bins_alike size address xs ys a same in
      let second = bins_alike size (address + n) xa ya b behind_a in
      let third = bins_alike size (address + 2 * n) xb yb c behind_b in
      let fourth =
      bins_alike size (address + 3 * n) (after size xb c) (after size yb c) d behind_c in
      λ i. flag i ++ (first i ++ (second i ++ (third i ++ fourth i)))

-- ---- what lies around a block

still_pred : (depth : ℕ) (pred : Pred) →
    still (Coded depth (prediction_of pred)) ≡
    still (Coded depth (prediction_of (pred_with_vector pred)))
still_pred depth (IntraPred mode) = refl
still_pred depth (InterPred reference mv flag mvd) = refl

still_unit : (unit : Option Unit) →
    still (square_or_none unit) ≡ still (square_or_none (option_map unit_with_vector unit))
still_unit None = refl
still_unit (Some unit) = still_pred unit.depth unit.pred

still_in : (units : List Unit) (i : ℕ) →
    still (square_or_none (slice_get units i)) ≡
    still (square_or_none (slice_get (map unit_with_vector units) i))
still_in units i =
    still_unit (slice_get units i) ∙
    ap (λ u. still (square_or_none u)) (sym (slice_get-map unit_with_vector units i))

still_right : (edges : Option UnitEdges) (i : ℕ) →
    still (on_right edges i) ≡ still (on_right (edges_with_vectors edges) i)
still_right None i = refl
still_right (Some edges) i = still_in edges.right i

still_bottom : (edges : Option UnitEdges) (i : ℕ) →
    still (on_bottom edges i) ≡ still (on_bottom (edges_with_vectors edges) i)
still_bottom None i = refl
still_bottom (Some edges) i = still_in edges.bottom i

still_cond : (test : Bool) (a b p q : Square) → still a ≡ still p → still b ≡ still q →
    still (cond test a b) ≡ still (cond test p q)
still_cond true a b p q first second = first
still_cond false a b p q first second = second

module _ (around : UnitsAround) where
  abbrev moving : UnitsAround
  moving = around_with_vectors around

  at_left : (row : ℕ) → still (square_at_left around row) ≡ still (square_at_left moving row)
  at_left row =
      still_cond (nat_lt row 8)
      (cond (nat_eq row 7) (on_bottom around.above_left 7) Unavailable)
      (on_right around.left (row - 8))
      (cond (nat_eq row 7) (on_bottom moving.above_left 7) Unavailable)
      (on_right moving.left (row - 8))
      (still_cond (nat_eq row 7) (on_bottom around.above_left 7) Unavailable
      (on_bottom moving.above_left 7) Unavailable (still_bottom around.above_left 7) refl)
      (still_right around.left (row - 8))

  above : (column : ℕ) → still (square_above around column) ≡ still (square_above moving column)
  above column =
      still_cond (nat_lt column 16) (on_bottom around.above (column - 8))
      (on_bottom around.above_right (column - 16)) (on_bottom moving.above (column - 8))
      (on_bottom moving.above_right (column - 16)) (still_bottom around.above (column - 8))
      (still_bottom around.above_right (column - 16))

  inside : (xs ys : List Square) (column row : ℕ) → Alike xs ys →
      still (square_inside xs column row) ≡ still (square_inside ys column row)
  inside xs ys column row same =
      let i : ℕ = address_of (column - 8) (row - 8) in
      still_cond (nat_lt column 16 && nat_lt row 16) (slice_index_or xs i Unavailable) Unavailable
      (slice_index_or ys i Unavailable) Unavailable
      (sym (get_or-map still xs i Unavailable) ∙ ap (λ l. slice_index_or l i Unavailable) same ∙
      get_or-map still ys i Unavailable)
      refl

  all_around : (xs ys : List Square) (column row : ℕ) → Alike xs ys →
      still (square_around around xs column row) ≡ still (square_around moving ys column row)
  all_around xs ys column row same =
      still_cond (nat_lt column 8)
      (cond (nat_eq column 7) (square_at_left around row) Unavailable)
      (cond (nat_lt row 8) (cond (nat_eq row 7) (square_above around column) Unavailable)
      (square_inside xs column row))
      (cond (nat_eq column 7) (square_at_left moving row) Unavailable)
      (cond (nat_lt row 8) (cond (nat_eq row 7) (square_above moving column) Unavailable)
      (square_inside ys column row))
      (still_cond (nat_eq column 7) (square_at_left around row) Unavailable
      (square_at_left moving row) Unavailable (at_left row) refl)
      (still_cond (nat_lt row 8) (cond (nat_eq row 7) (square_above around column) Unavailable)
      (square_inside xs column row)
      (cond (nat_eq row 7) (square_above moving column) Unavailable) (square_inside ys column row)
      (still_cond (nat_eq row 7) (square_above around column) Unavailable
      (square_above moving column) Unavailable (above column) refl)
      (inside xs ys column row same))

  pub around_alike : (here : Site) →
      LooksAlike (look_around here around) (look_around here (around_with_vectors around))
  unfolding look_around
  around_alike here xs ys column row same =
      still_cond (is_in_picture here (8 * ctb_column here + column) (8 * ctb_row here + row))
      (square_around around xs column row) Unavailable (square_around moving ys column row)
      Unavailable (all_around xs ys column row same) refl

-- ---- the squares of a block

map_tabulate : {A B : Type 0} (f : A → B) (n : ℕ) (g : ℕ → A) →
    map f (tabulate n g) ≡ tabulate n (λ i. f (g i))
unfolding tabulate
map_tabulate f zero g = refl
map_tabulate f (suc n) g = ap (λ l. f (g 0) ∷ l) (map_tabulate f n (λ i. g (suc i)))

-- Where squares with vectors are shown, there are such ones as they are coded.
pub record ShownCoded (here : Site) (plan : Plan) (address : ℕ) (earlier : List Square) :
    Type 0 where
  pub coded : List Square
  pub shows : Shows here plan address coded
  pub alike : Alike coded earlier

module _ (here : Site) (plan : Plan) (address : ℕ) (earlier : List Square)
    (shown : Shows here (plan_with_vectors plan) address earlier) where
  abbrev as_coded : ℕ → Square
  as_coded i =
      cond (is_outside here i) (slice_index_or earlier i Unavailable) (own_square plan i)

  coded_at : (i : ℕ) → i < length earlier →
      still (as_coded i) ≡ still (slice_index_or earlier i Unavailable)
  coded_at i below = by (is_outside here i) refl
    where
      by : (test : Bool) → is_outside here i ≡ test →
          still (cond test (slice_index_or earlier i Unavailable) (own_square plan i)) ≡
          still (slice_index_or earlier i Unavailable)
      by true out = refl
      by false out =
          still_in plan.units i ∙
          sym (ap still (shown.square i (omega (arith, below, shown.count)) out))

  pub shown_coded : ShownCoded here plan address earlier
  shown_coded = record {
    coded = tabulate (length earlier) as_coded;
    shows = record {
      count = length-tabulate (length earlier) as_coded ∙ shown.count;
      square = λ a below out.
          get_or-tabulate (length earlier) a as_coded Unavailable
          (omega (arith, below, shown.count)) ∙
          ap (λ test. cond test (slice_index_or earlier a Unavailable) (own_square plan a)) out;
    };
    alike =
        map_tabulate still (length earlier) as_coded ∙
        tabulate-same (length earlier) (λ i. still (as_coded i))
        (λ i. still (slice_index_or earlier i Unavailable)) coded_at ∙
        sym (map_tabulate still (length earlier) (λ i. slice_index_or earlier i Unavailable)) ∙
        ap (map still) (tabulate_own earlier Unavailable);
  }
