-- What is chosen may be coded: levels fill their blocks and have 16 bits, modes are modes, and a
-- node is split or a unit where it may be.
use Rattle.std.proofs.Common.{◌≡◌, ℕ, zero, suc, ◌+◌, ◌-◌, ◌*◌, ◌/◌, ◌^◌, ◌<◌, ◌≤◌, Bool, true, false, cond, List, [], ◌∷◌, ◌++◌, length, map, refl, sym, ap, ap₂, ◌∙◌, arith, ℤ, pos, negsuc, subst, true≢false}
use Rattle.std.specs.Prelude.{flat_map, nat_lt, nat_eq, ◌&&◌, Option, Some, None}
use Rattle.std.specs.List.{list_all}
use Rattle.std.proofs.lemmas.List.{length-append, length-map}
use Rattle.std.proofs.lemmas.Bool.Decides.{nat_tests}
use Rattle.std.proofs.lemmas.Int.{ints, clamps}
use Rattle.std.proofs.Math.Dec.{lit<}
use Rattle.std.proofs.Math.Nat.{add-mul, zero-mul}
use Rattle.std.specs.Int.RustNames.{unsigned_abs}
use Rattle.hv_tables.specs.Quantisers.{quantisation_factor}
use Rattle.hv_lemmas.specs.Clipping.{clip16}
use Rattle.hv_lemmas.specs.Lists.{tabulate}
use Rattle.hv_lemmas.proofs.ComparisonLemmas.{lt_below}
use Rattle.hv_lemmas.proofs.ListLemmas.{length-tabulate}
use Rattle.hv_tables.specs.declared.bins.SliceKind.{SliceKind}
use Rattle.hv_tables.specs.declared.bins.SliceKind.TheVariants.{I, P}
use Rattle.hv_types.specs.declared.picture.Picture.{Picture}
use Rattle.hv_plan.specs.declared.prediction.Mv.{Mv}
use Rattle.hv_sample_model.specs.Blocks.{square}
use Rattle.hv_sample_model.specs.Quantisation.{levels, transformed, with_sign_of, offset_of_kind, quantisation_shift}
use Rattle.hv_plan.specs.Levels.{has_16_bits}
use Rattle.hv_tables.specs.Quantisers.{chroma_qp}
use Rattle.hv_tree_model.specs.Trees.{Prediction, Intra, TransformUnit, Tree, Leaf, Outside, greatest_size, log2TrafoSize, transform_units, no_units}
use Rattle.hv_tree_model.specs.Sites.{Site, squares, x0, y0, is_outside, must_split}
use Rattle.hv_tree_model.specs.MostProbableModes.{planar, dc}
use Rattle.hv_unit_model.proofs.TransformLemmas.{no_units_valid}
use Rattle.hv_unit_model.specs.BlockSyntax.{is_intra}
use Rattle.hv_tree_model.specs.Validity.{HaveLevels, IsTransformUnit, AreTransformUnits, IsPrediction, IsValidNode, intra_modes}
use Rattle.hv_recon_model.specs.Reconstruction.{Decoded, Square, square_at}
use Rattle.hv_filter_model.proofs.CostLemmas.{Each, first_least_keeps, each_tabulate, each_append}
use Rattle.hv_mode_model.specs.ModeDecision.{Given, Before, behind, chosen_levels, chosen_unit, chosen_units, leaf, further_modes, score, luma_mode, has_list_0, may_name, candidate_at, difference_bins, predictor, inter_from, inter_unit, inter_by, inter_at, cost_of, predictions, least_of, chosen, split_of, best, Task, given_at, best_tree, best_trees}
use Rattle.hv_mode_model.specs.ModeLaws.{ChosenNodesMayBeCoded, ChosenTreesMayBeCoded, CodedNodesHaveTheirVectors, CodedTreesHaveTheirVectors}
use Rattle.hv_mode_model.proofs.DifferenceLemmas.{wrapped_fits, valid_coded, vectors_back, all_valid_coded, all_vectors_back}
use Rattle.hv_mode_model.proofs.ReferenceLemmas.{same_references}
use Rattle.hv_tree_model.specs.EarlierUnits.{Square as UnitSquare}
use Rattle.hv_recon_model.specs.ReconstructionLaws.{AreTrees}

-- ---- levels

rows_length : {A : Type 0} (n h : ℕ) (f : ℕ → ℕ → A) →
    length (flat_map (λ row. row) (tabulate h (λ y. tabulate n (λ x. f x y)))) ≡ h * n
unfolding tabulate
rows_length n zero f = sym (zero-mul n)
rows_length n (suc h) f =
    let first : length (tabulate n (λ x. f x 0)) ≡ n = length-tabulate n (λ x. f x 0) in
    let rest = rows_length n h (λ x y. f x (suc y)) in
    length-append (tabulate n (λ x. f x 0)) _ ∙ omega (arith, first, rest, add-mul h 1 n)

square_length : {A : Type 0} (log2 : ℕ) (f : ℕ → ℕ → A) →
    length (square log2 f) ≡ 2 ^ log2 * 2 ^ log2
square_length log2 f = rows_length (2 ^ log2) (2 ^ log2) f

clipped_fits : (z : ℤ) → has_16_bits (clip16 z) ≡ true
clipped_fits z = fits_of (clip16 z) z refl
  where
    fits_of : (y z : ℤ) → y ≡ clip16 z → has_16_bits y ≡ true
    fits_of (pos n) z e = lt_below n 32768 (omega (arith, ints, clamps, e))
    fits_of (negsuc n) z e = lt_below n 32768 (omega (arith, ints, clamps, e))

all_clipped_fit : (f : ℤ → ℤ) (cs : List ℤ) →
    list_all has_16_bits (map (λ c. clip16 (f c)) cs) ≡ true
all_clipped_fit f [] = refl
all_clipped_fit f (c ∷ cs) =
    ap₂ (λ a b. a && b) (clipped_fits (f c)) (all_clipped_fit f cs)

-- the level of a coefficient, before it is clipped
abbrev rounded_level : ℕ → ℕ → Bool → ℤ → ℤ
rounded_level log2 qp is_intra c =
    let shift = quantisation_shift log2 qp in
    with_sign_of c
    ((unsigned_abs c * quantisation_factor qp + offset_of_kind is_intra * 2 ^ (shift - 9)) /
    2 ^ shift)

are_levels : (log2 qp : ℕ) (is_intra : Bool) (residuals : List ℤ) →
    HaveLevels log2 (levels log2 qp is_intra residuals)
unfolding levels
are_levels log2 qp is_intra residuals = record {
  whole = length-map (transformed log2 residuals) _ ∙ square_length log2 _;
  small =
      all_clipped_fit (rounded_level log2 qp is_intra) (transformed log2 residuals);
}

unit_fits : (g : Given) (prediction : Prediction) (s : Square) (d : Decoded) →
    IsTransformUnit s.log2 (chosen_unit g prediction s d)
unfolding chosen_levels
unit_fits g prediction s d = record {
  luma = are_levels s.log2 g.qp (is_intra prediction) _;
  cb = are_levels (s.log2 - 1) (chroma_qp g.qp) (is_intra prediction) _;
  cr = are_levels (s.log2 - 1) (chroma_qp g.qp) (is_intra prediction) _;
}

units_fit : (g : Given) (prediction : Prediction) (size x y : ℕ) (d : Decoded) →
    size ≤ greatest_size →
    AreTransformUnits (log2TrafoSize size) (transform_units size)
    (chosen_units g prediction size (square_at x y (size + 3)) d)
units_fit g prediction zero x y d few = (unit_fits g prediction _ d, tt)
units_fit g prediction (suc zero) x y d few = (unit_fits g prediction _ d, tt)
units_fit g prediction (suc (suc zero)) x y d few = (unit_fits g prediction _ d, tt)
units_fit g prediction (suc (suc (suc zero))) x y d few = (
  unit_fits g prediction _ _,
  (
    unit_fits g prediction _ _,
    (
      unit_fits g prediction _ _,
      (unit_fits g prediction _ _, tt),
    ),
  ),
)
units_fit g prediction (suc (suc (suc (suc size)))) x y d few = absurd (omega (arith, few))

-- ---- modes

abbrev IsMode : ℕ → Type 0
IsMode mode = mode < intra_modes

further_are_modes : (effort : ℕ) → Each IsMode (further_modes effort)
further_are_modes effort = by_test (nat_lt effort 2)
  where
    by_test : (test : Bool) →
        Each IsMode (cond test (1 ∷ 10 ∷ 26 ∷ []) (tabulate 34 (λ mode. mode + 1)))
    by_test true = (lit< tt, (lit< tt, (lit< tt, tt)))
    by_test false = each_tabulate IsMode 34 (λ mode. mode + 1) (λ i below. omega (arith, below))

is_mode : (g : Given) (size address : ℕ) (before : Before) →
    IsMode (luma_mode g size address before)
unfolding luma_mode
is_mode g size address before =
    first_least_keeps IsMode (score g size address before) planar (further_modes g.effort) (lit< tt)
    (further_are_modes g.effort)

-- ---- predictions, in a slice of this kind

-- an entry of list 0 that a unit may name
pub record MayName (slice_type : SliceKind) (references entry : ℕ) : Type 0 where
  pub kind : slice_type ≡ P
  pub most : references ≤ 2
  pub below : entry < references

-- where the definition lets a unit name one, with these reference pictures
abbrev pub MayBeNamed : SliceKind → ℕ → Given → List Picture → Type 0
MayBeNamed slice_type references g pictures =
    (before : Before) (entry : ℕ) → entry < 2 → before.decoded.references ≡ pictures →
    may_name g before entry ≡ true → MayName slice_type references entry

is_motion : (references entry flag : ℕ) (mvpL0 mv : Mv) → references ≤ 2 → entry < references →
    flag < 2 → IsPrediction P references (inter_from mvpL0 mv entry flag)
is_motion references entry flag mvpL0 mv most below is_flag = record {
  most_references = most;
  reference = below;
  flag = is_flag;
  x = wrapped_fits _;
  y = wrapped_fits _;
}

is_flag : (g : Given) (size address : ℕ) (before : Before) (entry : ℕ) (mv : Mv) →
    predictor g size address before entry mv < 2
unfolding predictor
is_flag g size address before entry mv =
    first_least_keeps (λ flag. flag < 2) (difference_bins g size address before entry mv) 0 (1 ∷ [])
    (lit< tt) (lit< tt, tt)

-- ---- nodes

module _ (slice_type : SliceKind) (references : ℕ) (g : Given) (pictures : List Picture)
    (may : MayBeNamed slice_type references g pictures) where
  abbrev site : Site
  site = g.surroundings.site

  abbrev Valid : ℕ → ℕ → Tree → Type 0
  Valid size address tree = IsValidNode slice_type references site size address tree

  abbrev IsOne : Prediction → Type 0
  IsOne p = IsPrediction slice_type references p

  inter_valid : (size address : ℕ) (before : Before) (entry : ℕ) (mv : Option Mv) → entry < 2 →
      before.decoded.references ≡ pictures → Each IsOne (inter_by g size address before entry mv)
  inter_valid size address before entry None least has = tt
  inter_valid size address before entry (Some mv) least has =
      by_test (may_name g before entry) refl
    where
      unit : Prediction
      unit = inter_unit g size address before entry mv

      by_test : (test : Bool) → may_name g before entry ≡ test →
          Each IsOne (cond test (unit ∷ []) [])
      by_test false e = tt
      by_test true e =
          let named = may before entry least has e in
          let motion =
          is_motion references entry (predictor g size address before entry mv)
          (candidate_at g size address before entry (predictor g size address before entry mv)) mv
          named.most named.below (is_flag g size address before entry mv) in
          (subst (λ kind. IsPrediction kind references unit) (sym named.kind) motion, tt)

  predictions_valid : (size address : ℕ) (before : Before) →
      before.decoded.references ≡ pictures → Each IsOne (predictions g size address before)
  predictions_valid size address before has =
      each_append IsOne (inter_at g size address before 0) _
      (inter_valid size address before 0 _ (lit< tt) has)
      (each_append IsOne (inter_at g size address before 1) _
      (inter_valid size address before 1 _ (lit< tt) has)
      (is_mode g size address before, tt))

  valid_leaf : (size address : ℕ) (p : Prediction) (units : List TransformUnit) →
      is_outside site address ≡ false → must_split site size address ≡ false → IsOne p →
      AreTransformUnits (log2TrafoSize size) (transform_units size) units →
      Valid size address (Leaf p units)
  unfolding IsValidNode
  valid_leaf size address p units inside whole is fit = (inside, whole, is, fit)

  some_predictions : (size address : ℕ) (before : Before) (splits : List Tree) →
      0 < length (map (leaf g size address before) (predictions g size address before) ++ splits)
  some_predictions size address before splits =
      let first : List Prediction = inter_at g size address before 0 in
      let second : List Prediction = inter_at g size address before 1 in
      let last : List Prediction = Intra (luma_mode g size address before) ∷ [] in
      omega (
        arith,
        length-append (map (leaf g size address before) (first ++ (second ++ last))) splits,
        length-map (first ++ (second ++ last)) (leaf g size address before),
        length-append first (second ++ last),
        length-append second last,
      )

  least_valid : (size address : ℕ) (before : Before) (trees : List Tree) → 0 < length trees →
      Each (Valid size address) trees → Valid size address (least_of g size address before trees)
  least_valid size address before [] some each = absurd (omega (arith, some))
  least_valid size address before (tree ∷ trees) some each =
      first_least_keeps (Valid size address) (cost_of g size address before) tree trees each.0
      each.1

  valid_chosen : (size address : ℕ) (before : Before) (splits : List Tree) →
      size ≤ greatest_size → before.decoded.references ≡ pictures →
      is_outside site address ≡ false → must_split site size address ≡ false →
      Each (Valid size address) splits → Valid size address (chosen g size address before splits)
  unfolding chosen leaf
  valid_chosen size address before splits few has inside whole parts =
      by_test (nat_eq g.effort 0)
    where
      unit : (p : Prediction) → IsOne p → Valid size address (leaf g size address before p)
      unit p is =
          valid_leaf size address p _ inside whole is
          (units_fit g p size (x0 site address) (y0 site address) before.decoded few)

      units : (ps : List Prediction) → Each IsOne ps →
          Each (Valid size address) (map (leaf g size address before) ps)
      units [] each = tt
      units (p ∷ ps) each = (unit p each.0, units ps each.1)

      by_test : (test : Bool) →
          Valid size address (cond test (Leaf (Intra dc) (no_units size))
          (least_of g size address before
          (map (leaf g size address before) (predictions g size address before) ++ splits)))
      by_test true =
          valid_leaf size address (Intra dc) (no_units size) inside whole (lit< tt)
          (no_units_valid size)
      by_test false =
          least_valid size address before _ (some_predictions size address before splits)
          (each_append (Valid size address)
          (map (leaf g size address before) (predictions g size address before)) splits
          (units (predictions g size address before) (predictions_valid size address before has))
          parts)

  valid_split : (size address : ℕ) (before : Before) (choose : ℕ → Before → Tree) →
      ((address : ℕ) (before : Before) → before.decoded.references ≡ pictures →
      Valid size address (choose address before)) →
      before.decoded.references ≡ pictures → is_outside site address ≡ false →
      Valid (suc size) address (split_of g size address before choose)
  unfolding IsValidNode
  valid_split size address before choose each has inside =
      let n : ℕ = squares size in
      let a : Tree = choose address before in
      let behind_a : Before = behind g size address a before in
      let b : Tree = choose (address + n) behind_a in
      let behind_b : Before = behind g size (address + n) b behind_a in
      let c : Tree = choose (address + 2 * n) behind_b in
      let has_a = same_references g size address a before.decoded ∙ has in
      let has_b = same_references g size (address + n) b behind_a.decoded ∙ has_a in
      let has_c = same_references g size (address + 2 * n) c behind_b.decoded ∙ has_b in
      (inside, each address _ has, each _ _ has_a, each _ _ has_b, each _ _ has_c)

  pub valid_best : (size address : ℕ) (before : Before) → size ≤ greatest_size →
      before.decoded.references ≡ pictures → Valid size address (best g size address before)
  unfolding best IsValidNode
  valid_best zero address before few has = by_test (is_outside site address) refl
    where
      by_test : (test : Bool) → is_outside site address ≡ test →
          Valid 0 address (cond test Outside (chosen g 0 address before []))
      by_test true out = out
      by_test false inside = valid_chosen 0 address before [] few has inside refl tt
  valid_best (suc size) address before few has =
      by_tests (is_outside site address) (must_split site (suc size) address) refl refl
      (valid_split size address before (best g size)
      (λ address before has. valid_best size address before (omega (arith, few)) has) has)
    where
      parts : Tree
      parts = split_of g size address before (best g size)

      by_tests : (out must : Bool) → is_outside site address ≡ out →
          must_split site (suc size) address ≡ must →
          (is_outside site address ≡ false → Valid (suc size) address parts) →
          Valid (suc size) address
          (cond out Outside (cond must parts (chosen g (suc size) address before (parts ∷ []))))
      by_tests true must off crosses split = off
      by_tests false true inside crosses split = split inside
      by_tests false false inside fits split =
          valid_chosen (suc size) address before (parts ∷ []) few has inside fits (split inside, tt)

-- ---- in the slice that is given

of_p : (kind : SliceKind) → has_list_0 kind ≡ true → kind ≡ P
of_p I e = absurd (true≢false (sym e))
of_p P e = refl

own_names : (g : Given) (pictures : List Picture) →
    MayBeNamed g.surroundings.slice_type g.surroundings.references g pictures
own_names g pictures before entry least has named = record {
  kind = of_p g.surroundings.slice_type (grind (arith, nat_tests, named));
  most = grind (arith, nat_tests, named);
  below = grind (arith, nat_tests, named);
}

pub valid_here : (g : Given) (size address : ℕ) (before : Before) → size ≤ greatest_size →
    IsValidNode g.surroundings.slice_type g.surroundings.references g.surroundings.site size address
    (best g size address before)
valid_here g size address before few =
    valid_best g.surroundings.slice_type g.surroundings.references g before.decoded.references
    (own_names g before.decoded.references) size address before few refl

pub valid_node : ChosenNodesMayBeCoded
valid_node g size address before few =
    valid_coded g.surroundings.slice_type g.surroundings.references g.surroundings.site g.distances
    g.surroundings.look size address before.earlier (best g size address before)
    (valid_here g size address before few)

pub vectors_of_node : CodedNodesHaveTheirVectors
vectors_of_node g size address before few =
    vectors_back g.surroundings.slice_type g.surroundings.references g.surroundings.site g.distances
    g.surroundings.look size address before.earlier (best g size address before)
    (valid_here g size address before few)

-- ---- the trees of blocks

pub valid_trees_in : (slice_type : SliceKind) (references : ℕ) (task : Task)
    (pictures : List Picture) →
    ((site : Site) (done : List UnitSquare) →
    MayBeNamed slice_type references (given_at task site done) pictures) →
    (sites : List Site) (done : List UnitSquare) (d : Decoded) → d.references ≡ pictures →
    AreTrees slice_type references sites (best_trees task sites done d)
unfolding best_trees
valid_trees_in slice_type references task pictures may [] done d has = tt
valid_trees_in slice_type references task pictures may (site ∷ sites) done d has =
    let g : Given = given_at task site done in
    let tree : Tree = best_tree task site done d in (
      valid_best slice_type references g pictures (may site done) greatest_size 0 _ (lit< tt) has,
      valid_trees_in slice_type references task pictures may sites _ _
          (same_references g greatest_size 0 tree d ∙ has),
    )

-- without reference pictures, in a slice of any kind: no unit names one
pub valid_intra_trees : (slice_type : SliceKind) (references : ℕ) (task : Task)
    (sites : List Site) (done : List UnitSquare) (d : Decoded) → d.references ≡ [] →
    AreTrees slice_type references sites (best_trees task sites done d)
valid_intra_trees slice_type references task sites done d none =
    valid_trees_in slice_type references task [] (λ site done before entry least has named.
    let there : entry < length before.decoded.references = grind (arith, nat_tests, named) in
    absurd (omega (arith, there, ap length has))) sites done d none

-- with their vectors
pub valid_trees : (task : Task) (sites : List Site) (done : List UnitSquare) (d : Decoded) →
    AreTrees task.slice_type task.references sites (best_trees task sites done d)
valid_trees task sites done d =
    valid_trees_in task.slice_type task.references task d.references
    (λ site done. own_names (given_at task site done) d.references) sites done d refl

pub valid_coded_trees : ChosenTreesMayBeCoded
valid_coded_trees task sites done d =
    all_valid_coded task.slice_type task.references task.distances sites done
    (best_trees task sites done d) (valid_trees task sites done d)

pub vectors_of_trees : CodedTreesHaveTheirVectors
vectors_of_trees task sites done d =
    all_vectors_back task.slice_type task.references task.distances sites done
    (best_trees task sites done d) (valid_trees task sites done d)
