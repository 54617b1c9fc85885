-- Where no unit is predicted from another picture, in an I slice and where motion search found
-- nothing: each is predicted from its own, and coded as it is chosen.
use Rattle.std.proofs.Common.{◌≡◌, ℕ, zero, suc, ◌+◌, ◌*◌, Bool, true, false, cond, List, [], ◌∷◌, ◌++◌, map, refl, sym, ap, ap₂, subst}
use Rattle.std.specs.Prelude.{nat_eq, Option, Some, None}
use Rattle.hv_plan.specs.declared.prediction.Mv.{Mv}
use Rattle.hv_tables.specs.declared.bins.SliceKind.TheVariants.{I}
use Rattle.hv_filter_model.proofs.CostLemmas.{Each, first_least_keeps}
use Rattle.hv_tree_model.specs.Trees.{Prediction, Intra, Inter, Tree, Leaf, Split, Outside, side, greatest_size, no_units}
use Rattle.hv_tree_model.specs.MostProbableModes.{dc}
use Rattle.hv_recon_model.specs.Reconstruction.{Decoded}
use Rattle.hv_tree_model.specs.Sites.{Site, squares, x0, y0, is_outside, must_split}
use Rattle.hv_tree_model.specs.EarlierUnits.{Square, after, Look, look_picture}
use Rattle.hv_vector_model.specs.VectorPrediction.{Distances}
use Rattle.hv_mode_model.specs.Differences.{tree_with_differences, trees_with_differences}
use Rattle.hv_mode_model.specs.ModeDecision.{Given, Before, FoundVectors, leaf, luma_mode, inter_by, inter_at, predictions, cost_of, coded_node, least_of, chosen, split_of, best, Task, given_at, decoded_behind, best_tree, best_trees, coded_trees}
use Rattle.hv_mode_model.specs.ModeLaws.{IsIntraAlone, ISlicesAreIntraAlone, NothingFoundIsIntraAlone}

-- ---- trees of intra units have no vectors

abbrev pub IsIntra : Prediction → Type 0
IsIntra (Intra mode) = Unit {0}
IsIntra (Inter motion) = ⊥

abbrev pub AreIntra : Tree → Type 0
AreIntra Outside = Unit {0}
AreIntra (Leaf p units) = IsIntra p
AreIntra (Split a b c d) = AreIntra a × AreIntra b × AreIntra c × AreIntra d

pub coded_as_it_is : (distances : Distances) (look : Look) (size address : ℕ)
    (earlier : List Square) (tree : Tree) → AreIntra tree →
    tree_with_differences distances look size address earlier tree ≡ tree
unfolding tree_with_differences
coded_as_it_is distances look zero address earlier Outside alone = refl
coded_as_it_is distances look (suc size) address earlier Outside alone = refl
coded_as_it_is distances look zero address earlier (Leaf (Intra mode) units) alone = refl
coded_as_it_is distances look (suc size) address earlier (Leaf (Intra mode) units) alone = refl
coded_as_it_is distances look zero address earlier (Leaf (Inter motion) units) alone =
    absurd alone
coded_as_it_is distances look (suc size) address earlier (Leaf (Inter motion) units) alone =
    absurd alone
coded_as_it_is distances look zero address earlier (Split a b c d) alone = refl
coded_as_it_is distances look (suc size) address earlier (Split a b c d) alone =
    let n : ℕ = squares size in
    let behind_a : List Square = after size earlier a in
    let behind_b : List Square = after size behind_a b in
    let behind_c : List Square = after size behind_b c in
    let first = coded_as_it_is distances look size address earlier a alone.0 in
    let second = coded_as_it_is distances look size (address + n) behind_a b alone.1 in
    let third = coded_as_it_is distances look size (address + 2 * n) behind_b c alone.2 in
    let fourth = coded_as_it_is distances look size (address + 3 * n) behind_c d alone.3 in
    λ i. Split (first i) (second i) (third i) (fourth i)

-- ---- what is tried

-- from no entry of list 0
abbrev pub TriesNone : Given → Type 0
TriesNone g =
    (size address : ℕ) (before : Before) (entry : ℕ) → inter_at g size address before entry ≡ []

module _ (g : Given) (none : TriesNone g) where
  abbrev site : Site
  site = g.surroundings.site

  tried_alone : (size address : ℕ) (before : Before) →
      predictions g size address before ≡ Intra (luma_mode g size address before) ∷ []
  tried_alone size address before =
      ap₂ (λ a b. a ++ (b ++ Intra (luma_mode g size address before) ∷ []))
      (none size address before 0) (none size address before 1)

  pub unit_intra : (size address : ℕ) (before : Before) →
      AreIntra (leaf g size address before (Intra (luma_mode g size address before)))
  unfolding leaf
  unit_intra size address before = tt

  chosen_intra : (size address : ℕ) (before : Before) (splits : List Tree) →
      Each AreIntra splits → AreIntra (chosen g size address before splits)
  unfolding chosen
  chosen_intra size address before splits parts = by_test (nat_eq g.effort 0)
    where
      least : (ps : List Prediction) → ps ≡ Intra (luma_mode g size address before) ∷ [] →
          AreIntra (least_of g size address before
          (map (leaf g size address before) ps ++ splits))
      least ps alone =
          subst (λ list. AreIntra (least_of g size address before
          (map (leaf g size address before) list ++ splits))) (sym alone)
          (first_least_keeps AreIntra (cost_of g size address before)
          (leaf g size address before (Intra (luma_mode g size address before))) splits
          (unit_intra size address before) parts)

      by_test : (test : Bool) →
          AreIntra (cond test (Leaf (Intra dc) (no_units size))
          (least_of g size address before
          (map (leaf g size address before) (predictions g size address before) ++ splits)))
      by_test true = tt
      by_test false = least (predictions g size address before) (tried_alone size address before)

  pub best_intra : (size address : ℕ) (before : Before) →
      AreIntra (best g size address before)
  unfolding best
  best_intra zero address before = by_test (is_outside site address)
    where
      by_test : (test : Bool) → AreIntra (cond test Outside (chosen g 0 address before []))
      by_test true = tt
      by_test false = chosen_intra 0 address before [] tt
  best_intra (suc size) address before =
      by_tests (is_outside site address) (must_split site (suc size) address) (
        best_intra size address before,
        best_intra size _ _,
        best_intra size _ _,
        best_intra size _ _,
      )
    where
      parts : Tree
      parts = split_of g size address before (best g size)

      by_tests : (out must : Bool) → AreIntra parts →
          AreIntra (cond out Outside
          (cond must parts (chosen g (suc size) address before (parts ∷ []))))
      by_tests true must are = tt
      by_tests false true are = are
      by_tests false false are = chosen_intra (suc size) address before (parts ∷ []) (are, tt)

  -- a node that is split, or one that isn't
  pub split_as_it_is : (size address : ℕ) (before : Before) →
      coded_node g (suc size) address before (split_of g size address before (best g size)) ≡
      split_of g size address before (best g size)
  split_as_it_is size address before =
      coded_as_it_is g.distances g.surroundings.look (suc size) address before.earlier
      (split_of g size address before (best g size)) (
        best_intra size address before,
        best_intra size _ _,
        best_intra size _ _,
        best_intra size _ _,
      )

  pub unit_as_it_is : (size address : ℕ) (before : Before) →
      coded_node g size address before
      (leaf g size address before (Intra (luma_mode g size address before))) ≡
      leaf g size address before (Intra (luma_mode g size address before))
  unit_as_it_is size address before =
      coded_as_it_is g.distances g.surroundings.look size address before.earlier _
      (unit_intra size address before)

  pub intra_alone : IsIntraAlone g
  intra_alone = record {
    tried = tried_alone;
    coded = λ size address before.
        coded_as_it_is g.distances g.surroundings.look size address before.earlier
        (best g size address before) (best_intra size address before);
  }

-- ---- where that is so

pub none_in_i : (g : Given) → g.surroundings.slice_type ≡ I → (size address : ℕ) (before : Before)
    (entry : ℕ) (mv : Option Mv) → inter_by g size address before entry mv ≡ []
none_in_i g kind size address before entry None = refl
none_in_i g kind size address before entry (Some mv) = rw kind refl

pub alone_in_i_slices : ISlicesAreIntraAlone
alone_in_i_slices g kind =
    intra_alone g (λ size address before entry. none_in_i g kind size address before entry _)

pub alone_where_nothing_found : NothingFoundIsIntraAlone
alone_where_nothing_found g nothing =
    intra_alone g (λ size address before entry.
    ap (λ (found : FoundVectors). inter_by g size address before entry
    (found entry (x0 g.surroundings.site address) (y0 g.surroundings.site address) (side size)))
    nothing)

-- ---- the trees of blocks

pub trees_as_they_are : (task : Task) →
    ((site : Site) (done : List Square) → TriesNone (given_at task site done)) →
    (sites : List Site) (done : List Square) (d : Decoded) →
    coded_trees task sites done d ≡ best_trees task sites done d
unfolding trees_with_differences best_trees
trees_as_they_are task none [] done d = refl
trees_as_they_are task none (site ∷ sites) done d =
    let g : Given = given_at task site done in
    let tree : Tree = best_tree task site done d in
    ap₂ (λ t rest. t ∷ rest)
    (coded_as_it_is task.distances (look_picture site done) greatest_size 0 [] tree
    (best_intra g (none site done) greatest_size 0 (record { decoded = d; earlier = [] })))
    (trees_as_they_are task none sites (after greatest_size done tree)
    (decoded_behind g greatest_size 0 tree d))
