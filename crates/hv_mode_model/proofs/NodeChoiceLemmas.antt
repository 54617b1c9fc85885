-- By other vectors and distances the choice stays the same, where at each node the same is tried
-- and the trees that are tried cost the same. So it is by vectors that are the same at nodes.
use Rattle.std.proofs.Common.{◌≡◌, ℕ, zero, suc, ◌+◌, ◌*◌, ◌<◌, ◌≤◌, Bool, true, false, nat_lt, cond, List, [], ◌∷◌, ◌++◌, map, refl, ap, ap₂, subst, ◌∙◌, arith}
use Rattle.std.specs.Prelude.{nat_eq, Option, Some, None}
use Rattle.hv_plan.specs.declared.prediction.Mv.{Mv}
use Rattle.hv_types.specs.declared.picture.Picture.{Picture}
use Rattle.hv_filter_model.specs.Costs.{cheaper, first_least}
use Rattle.hv_filter_model.proofs.CostLemmas.{Each, each_append}
use Rattle.hv_tree_model.specs.Trees.{Prediction, Intra, Tree, Leaf, Split, Outside, greatest_size, no_units}
use Rattle.hv_tree_model.specs.Sites.{Site, site, sites, sites_from, blocks_over, squares, is_outside, must_split}
use Rattle.hv_tree_model.specs.EarlierUnits.{Square, after, Surroundings}
use Rattle.hv_tree_model.specs.MostProbableModes.{dc}
use Rattle.hv_tree_model.proofs.NodeLemmas.{IsNode, child_of}
use Rattle.hv_recon_model.specs.Reconstruction.{Decoded, nothing_decoded}
use Rattle.hv_vector_model.specs.VectorPrediction.{Distances}
use Rattle.hv_mode_model.specs.Differences.{trees_with_differences}
use Rattle.hv_mode_model.specs.ModeDecision.{FoundVectors, Given, Before, behind, decoded_behind, leaf, score, luma_mode, predictor, inter_by, inter_at, predictions, cost_of, least_of, chosen, split_of, best, Task, given_at, best_tree, best_trees, best_decoded}
use Rattle.hv_mode_model.specs.NodeLaws.{FindTheSame, ChoicesGoByNodes, PicturesGoByNodes}

-- ---- lists of trees that cost the same

first_least_alike : {A : Type 0} (f h : A → ℕ) (x : A) (xs : List A) → f x ≡ h x →
    Each (λ y. f y ≡ h y) xs → first_least f x xs ≡ first_least h x xs
first_least_alike f h x [] same each = refl
first_least_alike f h x (y ∷ xs) same each =
    ap (λ z. first_least f z xs) (ap₂ (λ a b. cond (nat_lt a b) y x) each.0 same) ∙
    first_least_alike f h (cheaper h x y) xs (of_cheaper (nat_lt (h y) (h x))) each.1
  where
    of_cheaper : (test : Bool) → f (cond test y x) ≡ h (cond test y x)
    of_cheaper true = each.0
    of_cheaper false = same

each_of : {A : Type 0} (P Q : A → Type 0) (xs : List A) → ((x : A) → P x → Q x) → Each P xs →
    Each Q xs
each_of P Q [] f each = tt
each_of P Q (x ∷ xs) f each = (f x each.0, each_of P Q xs f each.1)

-- ---- the choice at a node

-- By two searches, with distances, the same is chosen where what is tried is good in some way, good
-- trees cost the same, and the same is predicted at each node.
module _ (effort qp : ℕ) (input : Picture) (around : Surroundings)
    (distances other_distances : Distances) (vectors other_vectors : FoundVectors) where
  abbrev given : Distances → FoundVectors → Given
  given d found = record {
    effort = effort;
    qp = qp;
    input = input;
    surroundings = around;
    distances = d;
    vectors = found;
  }

  abbrev g : Given
  g = given distances vectors

  abbrev h : Given
  h = given other_distances other_vectors

  pub record IsTriedAlike (Good : Tree → Type 0) : Type 0 where
    pub costs :
        (size address : ℕ) (before : Before) (tree : Tree) → Good tree →
        cost_of g size address before tree ≡ cost_of h size address before tree
    pub units :
        (size address : ℕ) (before : Before) →
        Each Good (map (leaf g size address before) (predictions g size address before))
    pub splits :
        (size address : ℕ) (before : Before) → Good (split_of g size address before (best g size))
    pub tried :
        (size address : ℕ) (before : Before) → IsNode size address →
        predictions g size address before ≡ predictions h size address before

  module _ (Good : Tree → Type 0) (alike : IsTriedAlike Good) where
    least_alike : (size address : ℕ) (before : Before) (trees : List Tree) → Each Good trees →
        least_of g size address before trees ≡ least_of h size address before trees
    least_alike size address before [] good = refl
    least_alike size address before (tree ∷ trees) good =
        let f : Tree → ℕ = cost_of g size address before in
        let k : Tree → ℕ = cost_of h size address before in
        first_least_alike f k tree trees (alike.costs size address before tree good.0)
        (each_of Good (λ t. f t ≡ k t) trees (alike.costs size address before) good.1)

    same_units : (size address : ℕ) (before : Before) (ps : List Prediction) →
        map (leaf g size address before) ps ≡ map (leaf h size address before) ps
    unfolding leaf
    same_units size address before ps = refl

    chosen_alike : (size address : ℕ) (before : Before) (splits parts : List Tree) →
        IsNode size address → Each Good splits → splits ≡ parts →
        chosen g size address before splits ≡ chosen h size address before parts
    unfolding chosen
    chosen_alike size address before splits parts node good same =
        let ps : List Prediction = predictions g size address before in
        let trees : map (leaf g size address before) ps ++ splits ≡
        map (leaf h size address before) (predictions h size address before) ++ parts =
        ap (λ list. list ++ splits) (same_units size address before ps) ∙
        ap₂ (λ list rest. map (leaf h size address before) list ++ rest)
        (alike.tried size address before node) same in
        ap (λ tree. cond (nat_eq effort 0) (Leaf (Intra dc) (no_units size)) tree)
        (least_alike size address before (map (leaf g size address before) ps ++ splits)
        (each_append Good _ splits (alike.units size address before) good) ∙
        ap (least_of h size address before) trees)

    split_alike : (size address : ℕ) (before : Before) → IsNode (suc size) address →
        ((address : ℕ) (before : Before) → IsNode size address →
        best g size address before ≡ best h size address before) →
        split_of g size address before (best g size) ≡
        split_of h size address before (best h size)
    split_alike size address before node each =
        let n : ℕ = squares size in
        let a : Tree = best g size address before in
        let behind_a : Before = behind g size address a before in
        let b : Tree = best g size (address + n) behind_a in
        let behind_b : Before = behind g size (address + n) b behind_a in
        let c : Tree = best g size (address + 2 * n) behind_b in
        let behind_c : Before = behind g size (address + 2 * n) c behind_b in
        let after_a : Tree → Before = λ tree. behind h size address tree before in
        let at : (k corner : ℕ) → k < 4 → address + k * n ≡ corner → IsNode size corner =
        λ k corner below same. subst (IsNode size) same (child_of size address k node below).node in
        let first = each address before (at 0 address (omega arith) (omega arith)) in
        let second =
        each (address + n) behind_a (at 1 (address + n) (omega arith) (omega arith)) ∙
        ap (λ tree. best h size (address + n) (after_a tree)) first in
        let third =
        each (address + 2 * n) behind_b (at 2 (address + 2 * n) (omega arith) refl) ∙
        ap₂ (λ s t. best h size (address + 2 * n) (behind h size (address + n) t (after_a s)))
        first second in
        let fourth =
        each (address + 3 * n) behind_c (at 3 (address + 3 * n) (omega arith) refl) ∙
        (λ i. best h size (address + 3 * n) (behind h size (address + 2 * n) (third i)
        (behind h size (address + n) (second i) (after_a (first i))))) in
        λ i. Split (first i) (second i) (third i) (fourth i)

    pub best_alike : (size address : ℕ) (before : Before) → IsNode size address →
        best g size address before ≡ best h size address before
    unfolding best
    best_alike zero address before node =
        ap (λ tree. cond (is_outside around.site address) Outside tree)
        (chosen_alike 0 address before [] [] node tt refl)
    best_alike (suc size) address before node =
        let parts =
        split_alike size address before node (λ address before. best_alike size address before) in
        ap₂ (λ tree unit. cond (is_outside around.site address) Outside
        (cond (must_split around.site (suc size) address) tree unit))
        parts
        (chosen_alike (suc size) address before _ _ node
        (alike.splits size address before, tt) (ap (λ tree. tree ∷ []) parts))

-- ---- vectors that are the same at nodes

module _ (g : Given) (other : FoundVectors)
    (same : FindTheSame g.surroundings.site g.vectors other) where
  abbrev by_other : Given
  by_other = record g { vectors = other }

  same_inter : (size address : ℕ) (before : Before) (entry : ℕ) (mv : Option Mv) →
      inter_by g size address before entry mv ≡ inter_by by_other size address before entry mv
  unfolding predictor
  same_inter size address before entry None = refl
  same_inter size address before entry (Some mv) = refl

  same_at : (size address : ℕ) (before : Before) (entry : ℕ) → IsNode size address →
      inter_at g size address before entry ≡ inter_at by_other size address before entry
  same_at size address before entry node =
      same_inter size address before entry _ ∙
      ap (inter_by by_other size address before entry)
      (same entry size address node.few node.inside node.even)

  same_mode : (size address : ℕ) (before : Before) →
      luma_mode g size address before ≡ luma_mode by_other size address before
  unfolding luma_mode score
  same_mode size address before = refl

  same_predictions : (size address : ℕ) (before : Before) → IsNode size address →
      predictions g size address before ≡ predictions by_other size address before
  same_predictions size address before node =
      let first = same_at size address before 0 node in
      let second = same_at size address before 1 node in
      let mode = same_mode size address before in
      λ i. first i ++ (second i ++ Intra (mode i) ∷ [])

  same_cost : (size address : ℕ) (before : Before) (tree : Tree) →
      cost_of g size address before tree ≡ cost_of by_other size address before tree
  unfolding cost_of
  same_cost size address before tree = refl

  each_any : (trees : List Tree) → Each (λ tree. Unit {0}) trees
  each_any [] = tt
  each_any (tree ∷ trees) = (tt, each_any trees)

  pub best_by_nodes : (size address : ℕ) (before : Before) → IsNode size address →
      best g size address before ≡ best by_other size address before
  best_by_nodes =
      best_alike g.effort g.qp g.input g.surroundings g.distances g.distances g.vectors other
      (λ tree. Unit {0})
      (record {
        costs = λ size address before tree good. same_cost size address before tree;
        units = λ size address before. each_any _;
        splits = λ size address before. tt;
        tried = same_predictions;
      })

pub choices_by_nodes : ChoicesGoByNodes
choices_by_nodes g other size address before few inside even same =
    best_by_nodes g other same size address before
    (record { few = few; inside = inside; even = even })

-- ---- the blocks of a picture

module _ (task : Task) (distances : Distances) (vectors : FoundVectors) where
  abbrev by_others : Task
  by_others = record task { distances = distances; vectors = vectors }

  -- for a block the same is chosen, whatever comes before it
  abbrev pub IsChosenAlike : Site → Type 0
  IsChosenAlike here =
      (done : List Square) (d : Decoded) →
      best_tree task here done d ≡ best_tree by_others here done d

  pub trees_alike : (places : List Site) → Each IsChosenAlike places → (done : List Square)
      (d : Decoded) → best_trees task places done d ≡ best_trees by_others places done d
  unfolding best_trees
  trees_alike [] alike done d = refl
  trees_alike (here ∷ places) alike done d =
      let one = alike.0 done d in
      let behind_it : Tree → Decoded =
      λ tree. decoded_behind (given_at task here done) greatest_size 0 tree d in
      ap₂ (λ t rest. t ∷ rest) one
      (trees_alike places alike.1 (after greatest_size done (best_tree task here done d))
      (behind_it (best_tree task here done d)) ∙
      ap (λ tree. best_trees by_others places (after greatest_size done tree) (behind_it tree))
      one)

  pub decoded_alike : (places : List Site) → Each IsChosenAlike places → (done : List Square)
      (d : Decoded) → best_decoded task places done d ≡ best_decoded by_others places done d
  unfolding best_decoded
  decoded_alike [] alike done d = refl
  decoded_alike (here ∷ places) alike done d =
      let behind_it : Tree → Decoded =
      λ tree. decoded_behind (given_at task here done) greatest_size 0 tree d in
      decoded_alike places alike.1 (after greatest_size done (best_tree task here done d))
      (behind_it (best_tree task here done d)) ∙
      ap (λ tree. best_decoded by_others places (after greatest_size done tree) (behind_it tree))
      (alike.0 done d)

each_site : (P : Site → Type 0) (width height total : ℕ) →
    ((index : ℕ) → index < total → P (site width height index)) → (count first : ℕ) →
    first + count ≤ total → Each P (sites_from count width height first)
each_site P width height total each zero first most = tt
each_site P width height total each (suc count) first most = (
  each first (omega (arith, most)),
  each_site P width height total each count (first + 1) (omega (arith, most)),
)

pub pictures_by_nodes : PicturesGoByNodes
unfolding sites
pictures_by_nodes task other width height references same =
    let total : ℕ = blocks_over width * blocks_over height in
    let alike : Each (IsChosenAlike task task.distances other) (sites width height) =
    each_site (IsChosenAlike task task.distances other) width height total (λ index below done d.
    best_by_nodes (given_at task (site width height index) done) other (same index below)
    greatest_size 0 (record { decoded = d; earlier = [] })
    (record { few = omega arith; inside = omega arith; even = refl })) total 0 (omega arith) in
    let trees =
    trees_alike task task.distances other (sites width height) alike []
    (nothing_decoded references) in record {
      trees = trees;
      coded = ap (trees_with_differences task.distances (sites width height) []) trees;
      decoded =
          decoded_alike task task.distances other (sites width height) alike []
          (nothing_decoded references);
    }
