-- In an I slice what is chosen asks for no vectors: it is the same whatever motion search found,
-- and it is coded as it is chosen.
use Rattle.std.proofs.Common.{◌≡◌, ℕ, zero, suc, cond, List, [], ◌∷◌, ◌++◌, map, refl, sym, ap, ap₂, ◌∙◌}
use Rattle.std.specs.Prelude.{nat_eq, Option, Some, None}
use Rattle.hv_plan.specs.declared.prediction.Mv.{Mv}
use Rattle.hv_tables.specs.declared.bins.SliceKind.TheVariants.{I}
use Rattle.hv_filter_model.proofs.CostLemmas.{first_least_same}
use Rattle.hv_tree_model.specs.Trees.{Prediction, Intra, Tree, Leaf, Outside, greatest_size, no_units}
use Rattle.hv_tree_model.specs.Sites.{Site, is_outside, must_split}
use Rattle.hv_tree_model.specs.EarlierUnits.{Square, after}
use Rattle.hv_tree_model.specs.MostProbableModes.{dc}
use Rattle.hv_recon_model.specs.Reconstruction.{Decoded}
use Rattle.hv_mode_model.specs.ModeDecision.{FoundVectors, Given, Before, Task, given_at, luma_mode, score, leaf, inter_by, predictions, cost_of, least_of, chosen, split_of, best, best_tree, decoded_behind, best_trees, best_decoded, coded_trees}
use Rattle.hv_mode_model.proofs.IntraAloneLemmas.{TriesNone, alone_in_i_slices, trees_as_they_are}

-- ---- no unit is predicted from another picture

none_tried : (g : Given) → g.surroundings.slice_type ≡ I → (size address : ℕ) (before : Before)
    (entry : ℕ) (mv : Option Mv) → inter_by g size address before entry mv ≡ []
none_tried g is_i size address before entry None = refl
none_tried g is_i size address before entry (Some mv) = rw is_i refl

tries_none : (g : Given) → g.surroundings.slice_type ≡ I → TriesNone g
tries_none g is_i size address before entry = none_tried g is_i size address before entry _

-- so what is coded of blocks is what is chosen
pub coded_as_chosen : (task : Task) → task.slice_type ≡ I → (places : List Site)
    (done : List Square) (d : Decoded) →
    coded_trees task places done d ≡ best_trees task places done d
coded_as_chosen task is_i places done d =
    trees_as_they_are task (λ site done. tries_none (given_at task site done) is_i) places done d

-- ---- with other vectors

module _ (task : Task) (is_i : task.slice_type ≡ I) (found : FoundVectors) where
  abbrev other : Task
  other = record task { vectors = found }

  module _ (site : Site) (done : List Square) where
    abbrev g : Given
    g = given_at task site done

    abbrev h : Given
    h = given_at other site done

    same_predictions : (size address : ℕ) (before : Before) →
        predictions g size address before ≡ predictions h size address before
    unfolding luma_mode score
    same_predictions size address before =
        (alone_in_i_slices g is_i).tried size address before ∙
        sym ((alone_in_i_slices h is_i).tried size address before)

    same_cost : (size address : ℕ) (before : Before) (tree : Tree) →
        cost_of g size address before tree ≡ cost_of h size address before tree
    unfolding cost_of
    same_cost size address before tree = refl

    same_least : (size address : ℕ) (before : Before) (trees : List Tree) →
        least_of g size address before trees ≡ least_of h size address before trees
    same_least size address before [] = refl
    same_least size address before (tree ∷ trees) =
        first_least_same (cost_of g size address before) (cost_of h size address before) tree trees
        (same_cost size address before)

    same_units : (size address : ℕ) (before : Before) (ps : List Prediction) →
        map (leaf g size address before) ps ≡ map (leaf h size address before) ps
    unfolding leaf
    same_units size address before ps = refl

    same_chosen : (size address : ℕ) (before : Before) (splits : List Tree) →
        chosen g size address before splits ≡ chosen h size address before splits
    unfolding chosen
    same_chosen size address before splits =
        let ps : List Prediction = predictions g size address before in
        ap (cond (nat_eq task.effort 0) (Leaf (Intra dc) (no_units size)))
        (same_least size address before (map (leaf g size address before) ps ++ splits) ∙
        ap (λ trees. least_of h size address before (trees ++ splits))
        (same_units size address before ps ∙
        ap (map (leaf h size address before)) (same_predictions size address before)))

    same_best : (size address : ℕ) (before : Before) →
        best g size address before ≡ best h size address before
    unfolding best
    same_best zero address before =
        ap (cond (is_outside site address) Outside) (same_chosen 0 address before [])
    same_best (suc size) address before =
        let parts : split_of g size address before (best g size) ≡
        split_of h size address before (best h size) =
        λ i. split_of g size address before (λ at here. same_best size at here i) in
        ap₂ (λ split unit. cond (is_outside site address) Outside
        (cond (must_split site (suc size) address) split unit))
        parts
        (ap (λ split. chosen g (suc size) address before (split ∷ [])) parts ∙
        same_chosen (suc size) address before _)

  same_tree : (site : Site) (done : List Square) (d : Decoded) →
      best_tree task site done d ≡ best_tree other site done d
  same_tree site done d =
      same_best site done greatest_size 0 (record { decoded = d; earlier = [] })

  -- the trees of blocks, and what is decoded behind them
  pub same_trees : (places : List Site) (done : List Square) (d : Decoded) →
      best_trees task places done d ≡ best_trees other places done d
  unfolding best_trees
  same_trees [] done d = refl
  same_trees (site ∷ places) done d =
      ap (λ tree.
      tree ∷
      best_trees task places (after greatest_size done tree)
      (decoded_behind (given_at task site done) greatest_size 0 tree d))
      (same_tree site done d) ∙
      ap (λ rest. best_tree other site done d ∷ rest) (same_trees places _ _)

  pub same_decoded : (places : List Site) (done : List Square) (d : Decoded) →
      best_decoded task places done d ≡ best_decoded other places done d
  unfolding best_decoded
  same_decoded [] done d = refl
  same_decoded (site ∷ places) done d =
      ap (λ tree.
      best_decoded task places (after greatest_size done tree)
      (decoded_behind (given_at task site done) greatest_size 0 tree d))
      (same_tree site done d) ∙
      same_decoded places _ _
