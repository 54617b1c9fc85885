-- What is coded of trees with vectors may be coded where these may, and has their vectors: a
-- candidate and the difference from it make a vector of 16 bits again (8.5.3.2.1).
use Rattle.std.proofs.Common.{◌≡◌, ℕ, zero, suc, ◌+◌, ◌*◌, ◌<◌, true, List, [], ◌∷◌, refl, ap, ap₂, ◌∙◌, arith, ℤ, pos, negsuc}
use Rattle.std.specs.Prelude.{◌+ℤ◌, ◌-ℤ◌}
use Rattle.std.specs.Int.{w16, int_wrap}
use Rattle.std.specs.Int.RustNames.{FitsSigned}
use Rattle.std.proofs.lemmas.Bool.Decides.{nat_tests}
use Rattle.std.proofs.lemmas.Int.{ints, SFits-int_wrap, int_wrap_fits, int_wrap-add_right}
use Rattle.hv_lemmas.proofs.ComparisonLemmas.{lt_below}
use Rattle.hv_plan.specs.declared.prediction.Mv.{Mv}
use Rattle.hv_plan.specs.Levels.{has_16_bits}
use Rattle.hv_tables.specs.declared.bins.SliceKind.{SliceKind}
use Rattle.hv_tables.specs.declared.bins.SliceKind.TheVariants.{I, P}
use Rattle.hv_tree_model.specs.Trees.{Prediction, Intra, Inter, Tree, Leaf, Split, Outside, greatest_size}
use Rattle.hv_tree_model.specs.Sites.{Site, squares}
use Rattle.hv_tree_model.specs.EarlierUnits.{Square, after, Look, look_picture}
use Rattle.hv_tree_model.specs.Validity.{IsPrediction, IsValidNode}
use Rattle.hv_recon_model.specs.ReconstructionLaws.{AreTrees}
use Rattle.hv_vector_model.specs.declared.motion.Neighbourhood.{Neighbourhood}
use Rattle.hv_vector_model.specs.VectorPrediction.{Distances}
use Rattle.hv_vector_model.specs.Vectors.{neighbourhood_of, prediction_with_vector, tree_with_vectors, trees_with_vectors}
use Rattle.hv_mode_model.specs.Differences.{prediction_with_difference, tree_with_differences, trees_with_differences}
use Rattle.hv_mode_model.specs.ModeLaws.{VectorsAreThoseFound}

-- ---- numbers of 16 bits

fits_in : (z : ℤ) → has_16_bits z ≡ true → FitsSigned w16 z
fits_in (pos n) small =
    let least : n < 32768 = grind (arith, nat_tests, small) in omega (arith, ints, least)
fits_in (negsuc n) small =
    let least : n < 32768 = grind (arith, nat_tests, small) in omega (arith, ints, least)

pub wrapped_fits : (z : ℤ) → has_16_bits (int_wrap w16 z) ≡ true
wrapped_fits z = fits_of (int_wrap w16 z) (SFits-int_wrap w16 z)
  where
    fits_of : (y : ℤ) → FitsSigned w16 y → has_16_bits y ≡ true
    fits_of (pos n) fits = lt_below n 32768 (omega (arith, ints, fits))
    fits_of (negsuc n) fits = lt_below n 32768 (omega (arith, ints, fits))

back_again : (v c : ℤ) → has_16_bits v ≡ true →
    int_wrap w16 (c +ℤ int_wrap w16 (v -ℤ c)) ≡ v
back_again v c small =
    let whole : c +ℤ (v -ℤ c) ≡ v = omega (arith, ints) in
    int_wrap-add_right w16 c (v -ℤ c) ∙ ap (int_wrap w16) whole ∙
    int_wrap_fits w16 v (fits_in v small)

pub vectors_found : VectorsAreThoseFound
vectors_found mv mvpL0 x y =
    ap₂ (λ a b. record { x = a; y = b }) (back_again mv.x mvpL0.x x) (back_again mv.y mvpL0.y y)

-- ---- predictions

prediction_back : (slice_type : SliceKind) (references : ℕ) (distances : Distances)
    (n : Neighbourhood) (p : Prediction) → IsPrediction slice_type references p →
    prediction_with_vector distances n (prediction_with_difference distances n p) ≡ p
prediction_back slice_type references distances n (Intra mode) valid = refl
prediction_back I references distances n (Inter motion) valid = absurd valid
prediction_back P references distances n (Inter motion) valid =
    ap (λ (mv : Mv). Inter (record motion { MvdL0 = mv }))
    (vectors_found motion.MvdL0 _ valid.x valid.y)

prediction_coded : (slice_type : SliceKind) (references : ℕ) (distances : Distances)
    (n : Neighbourhood) (p : Prediction) → IsPrediction slice_type references p →
    IsPrediction slice_type references (prediction_with_difference distances n p)
prediction_coded slice_type references distances n (Intra mode) valid = valid
prediction_coded I references distances n (Inter motion) valid = absurd valid
prediction_coded P references distances n (Inter motion) valid = record {
  most_references = valid.most_references;
  reference = valid.reference;
  flag = valid.flag;
  x = wrapped_fits _;
  y = wrapped_fits _;
}

-- ---- trees that may be coded, but for their vectors

module _ (slice_type : SliceKind) (references : ℕ) (site : Site) (distances : Distances)
    (look : Look) where
  abbrev Valid : ℕ → ℕ → Tree → Type 0
  Valid size address tree = IsValidNode slice_type references site size address tree

  abbrev coded : ℕ → ℕ → List Square → Tree → Tree
  coded size address earlier tree =
      tree_with_differences distances look size address earlier tree

  abbrev moved : ℕ → ℕ → List Square → Tree → Tree
  moved size address earlier tree = tree_with_vectors distances look size address earlier tree

  abbrev seen : ℕ → ℕ → List Square → Neighbourhood
  seen size address earlier = neighbourhood_of look size address earlier

  pub valid_coded : (size address : ℕ) (earlier : List Square) (tree : Tree) →
      Valid size address tree → Valid size address (coded size address earlier tree)
  unfolding IsValidNode tree_with_differences
  valid_coded zero address earlier Outside valid = valid
  valid_coded (suc size) address earlier Outside valid = valid
  valid_coded zero address earlier (Leaf p units) valid =
      (valid.0, valid.1, prediction_coded slice_type references distances (seen zero address earlier) p valid.2, valid.3)
  valid_coded (suc size) address earlier (Leaf p units) valid =
      (valid.0, valid.1, prediction_coded slice_type references distances (seen (suc size) address earlier) p valid.2, valid.3)
  valid_coded zero address earlier (Split a b c d) valid = valid
  valid_coded (suc size) address earlier (Split a b c d) valid = (
    valid.0,
    valid_coded size address _ a valid.1,
    valid_coded size (address + squares size) _ b valid.2,
    valid_coded size (address + 2 * squares size) _ c valid.3,
    valid_coded size (address + 3 * squares size) _ d valid.4,
  )

  pub vectors_back : (size address : ℕ) (earlier : List Square) (tree : Tree) →
      Valid size address tree →
      moved size address earlier (coded size address earlier tree) ≡ tree
  unfolding IsValidNode tree_with_differences tree_with_vectors
  vectors_back zero address earlier Outside valid = refl
  vectors_back (suc size) address earlier Outside valid = refl
  vectors_back zero address earlier (Leaf p units) valid =
      ap (λ q. Leaf q units) (prediction_back slice_type references distances (seen zero address earlier) p valid.2)
  vectors_back (suc size) address earlier (Leaf p units) valid =
      ap (λ q. Leaf q units) (prediction_back slice_type references distances (seen (suc size) address earlier) p valid.2)
  vectors_back zero address earlier (Split a b c d) valid = absurd valid
  vectors_back (suc size) address earlier (Split a b c d) valid =
      let n : ℕ = squares size in
      let behind_a : List Square = after size earlier a in
      let behind_b : List Square = after size behind_a b in
      let behind_c : List Square = after size behind_b c in
      let b_coded : Tree = coded size (address + n) behind_a b in
      let c_coded : Tree = coded size (address + 2 * n) behind_b c in
      let d_coded : Tree = coded size (address + 3 * n) behind_c d in
      let first = vectors_back size address earlier a valid.1 in
      let second =
      ap (λ s. moved size (address + n) (after size earlier s) b_coded) first ∙
      vectors_back size (address + n) behind_a b valid.2 in
      let third =
      ap₂ (λ s t. moved size (address + 2 * n) (after size (after size earlier s) t) c_coded)
      first second ∙
      vectors_back size (address + 2 * n) behind_b c valid.3 in
      let fourth =
      (λ i. moved size (address + 3 * n)
      (after size (after size (after size earlier (first i)) (second i)) (third i)) d_coded) ∙
      vectors_back size (address + 3 * n) behind_c d valid.4 in
      λ i. Split (first i) (second i) (third i) (fourth i)

-- ---- the trees of blocks

module _ (slice_type : SliceKind) (references : ℕ) (distances : Distances) where
  pub all_valid_coded : (sites : List Site) (done : List Square) (trees : List Tree) →
      AreTrees slice_type references sites trees →
      AreTrees slice_type references sites (trees_with_differences distances sites done trees)
  unfolding trees_with_differences
  all_valid_coded [] done [] valid = tt
  all_valid_coded [] done (tree ∷ trees) valid = absurd valid
  all_valid_coded (site ∷ sites) done [] valid = absurd valid
  all_valid_coded (site ∷ sites) done (tree ∷ trees) valid = (
    valid_coded slice_type references site distances (look_picture site done) greatest_size 0 [] tree
        valid.0,
    all_valid_coded sites (after greatest_size done tree) trees valid.1,
  )

  pub all_vectors_back : (sites : List Site) (done : List Square) (trees : List Tree) →
      AreTrees slice_type references sites trees →
      trees_with_vectors distances sites done (trees_with_differences distances sites done trees) ≡
      trees
  unfolding trees_with_differences trees_with_vectors
  all_vectors_back [] done [] valid = refl
  all_vectors_back [] done (tree ∷ trees) valid = absurd valid
  all_vectors_back (site ∷ sites) done [] valid = absurd valid
  all_vectors_back (site ∷ sites) done (tree ∷ trees) valid =
      let coded_later : List Tree =
      trees_with_differences distances sites (after greatest_size done tree) trees in
      let first =
      vectors_back slice_type references site distances (look_picture site done) greatest_size 0 []
      tree valid.0 in
      let later =
      ap (λ t. trees_with_vectors distances sites (after greatest_size done t) coded_later) first ∙
      all_vectors_back sites (after greatest_size done tree) trees valid.1 in
      ap₂ (λ t rest. t ∷ rest) first later
