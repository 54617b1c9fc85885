-- Only the distances of entries are asked for, 0 where there is none: so the choice for a picture
-- is the same by any lists of distances that say the same of each entry.
use Rattle.std.proofs.Common.{◌≡◌, ℕ, zero, suc, ◌+◌, ◌*◌, cond, List, [], ◌∷◌, ◌++◌, length, take, refl, ap, ap₂, ◌∙◌, arith}
use Rattle.std.specs.Prelude.{nat_eq, slice_index_or, Option, Some, None}
use Rattle.std.specs.Option.{option_or}
use Rattle.hv_plan.specs.declared.prediction.Mv.{Mv}
use Rattle.hv_filter_model.specs.Costs.{cost, first_least}
use Rattle.hv_filter_model.proofs.CostLemmas.{Each}
use Rattle.hv_tree_model.specs.Trees.{Prediction, Intra, Inter, Tree, Leaf, Split, Outside, greatest_size}
use Rattle.hv_tree_model.specs.Sites.{Site, squares}
use Rattle.hv_tree_model.specs.EarlierUnits.{Square, after, Look, look_picture}
use Rattle.hv_tree_model.proofs.NodeLemmas.{IsNode}
use Rattle.hv_unit_model.specs.Bins.{mvd_bins, bins_of_node}
use Rattle.hv_recon_model.specs.Reconstruction.{Decoded}
use Rattle.hv_vector_model.specs.declared.motion.Moving.{Moving}
use Rattle.hv_vector_model.specs.declared.motion.Neighbourhood.{Neighbourhood}
use Rattle.hv_vector_model.specs.VectorPrediction.{Distances, distance, scaled, first_of, same_reference, any_reference, left_squares, squares_above, isScaledFlagL0, those_found, no_vector}
use Rattle.hv_vector_model.specs.Vectors.{neighbourhood_of}
use Rattle.hv_mode_model.specs.Differences.{candidate, difference, tree_with_differences, trees_with_differences}
use Rattle.hv_mode_model.specs.ModeDecision.{Given, Before, decoded_behind, node_square, score, luma_mode, may_name, predictor, inter_from, inter_by, predictions, squared_errors, cost_of, best, Task, given_at, best_trees}
use Rattle.hv_mode_model.specs.NodeLaws.{ChooseTheSame}
use Rattle.hv_mode_model.proofs.NodeChoiceLemmas.{best_alike, IsChosenAlike, trees_alike, decoded_alike}

module _ (one other : Distances)
    (same : (entry : ℕ) → distance one entry ≡ distance other entry) where
  -- ---- candidates

  same_any : (entry : ℕ) (m : Option Moving) (squares : List (Option Moving)) →
      first_of squares ≡ m →
      any_reference one entry squares ≡ any_reference other entry squares
  same_any entry None squares e = rw e refl
  same_any entry (Some m) squares e =
      rw e
      (ap₂ (λ from to. Some (cond (nat_eq m.reference entry) m.mv (scaled from to m.mv)))
      (same m.reference) (same entry))

  same_candidate : (n : Neighbourhood) (entry flag : ℕ) →
      candidate one n entry flag ≡ candidate other n entry flag
  same_candidate n entry flag =
      ap₂ (λ left above. slice_index_or (take 2
      (those_found
      (cond (isScaledFlagL0 n)
      (option_or (same_reference entry (left_squares n)) left)
      (same_reference entry (squares_above n)))
      (cond (isScaledFlagL0 n) (same_reference entry (squares_above n)) above) ++
      (no_vector ∷ no_vector ∷ []))) flag no_vector)
      (same_any entry _ (left_squares n) refl)
      (same_any entry _ (squares_above n) refl)

  -- ---- what is coded of trees

  same_coded : (look : Look) (size address : ℕ) (earlier : List Square) (tree : Tree) →
      tree_with_differences one look size address earlier tree ≡
      tree_with_differences other look size address earlier tree
  unfolding tree_with_differences
  same_coded look zero address earlier Outside = refl
  same_coded look (suc size) address earlier Outside = refl
  same_coded look zero address earlier (Leaf (Intra mode) units) = refl
  same_coded look (suc size) address earlier (Leaf (Intra mode) units) = refl
  same_coded look zero address earlier (Leaf (Inter motion) units) =
      ap (λ c. Leaf (Inter (record motion { MvdL0 = difference motion.MvdL0 c })) units)
      (same_candidate (neighbourhood_of look zero address earlier) motion.ref_idx_l0
      motion.mvp_l0_flag)
  same_coded look (suc size) address earlier (Leaf (Inter motion) units) =
      ap (λ c. Leaf (Inter (record motion { MvdL0 = difference motion.MvdL0 c })) units)
      (same_candidate (neighbourhood_of look (suc size) address earlier) motion.ref_idx_l0
      motion.mvp_l0_flag)
  same_coded look zero address earlier (Split a b c d) = refl
  same_coded look (suc size) address earlier (Split a b c d) =
      let n : ℕ = squares size in
      let behind_a : List Square = after size earlier a in
      let behind_b : List Square = after size behind_a b in
      let behind_c : List Square = after size behind_b c in
      let first = same_coded look size address earlier a in
      let second = same_coded look size (address + n) behind_a b in
      let third = same_coded look size (address + 2 * n) behind_b c in
      let fourth = same_coded look size (address + 3 * n) behind_c d in
      λ i. Split (first i) (second i) (third i) (fourth i)

  same_all : (places : List Site) (done : List Square) (trees : List Tree) →
      trees_with_differences one places done trees ≡ trees_with_differences other places done trees
  unfolding trees_with_differences
  same_all [] done trees = refl
  same_all (here ∷ places) done [] = refl
  same_all (here ∷ places) done (tree ∷ trees) =
      ap₂ (λ t rest. t ∷ rest)
      (same_coded (look_picture here done) greatest_size 0 [] tree)
      (same_all places (after greatest_size done tree) trees)

-- ---- the choice at a node

module _ (g : Given) (other : Distances)
    (same : (entry : ℕ) → distance g.distances entry ≡ distance other entry) where
  abbrev by_other : Given
  by_other = record g { distances = other }

  abbrev around : ℕ → ℕ → Before → Neighbourhood
  around size address before = neighbourhood_of g.surroundings.look size address before.earlier

  -- a unit by its two candidates
  abbrev unit_by : (ℕ → Mv) → ℕ → Mv → Prediction
  unit_by candidates entry mv =
      let bins : ℕ → ℕ = λ flag. length (mvd_bins (difference mv (candidates flag))) in
      let flag : ℕ = first_least bins 0 (1 ∷ []) in
      inter_from (candidates flag) mv entry flag

  same_inter : (size address : ℕ) (before : Before) (entry : ℕ) (mv : Option Mv) →
      inter_by g size address before entry mv ≡ inter_by by_other size address before entry mv
  unfolding predictor
  same_inter size address before entry None = refl
  same_inter size address before entry (Some mv) =
      let candidates : candidate g.distances (around size address before) entry ≡
      candidate other (around size address before) entry =
      λ i flag. same_candidate g.distances other same (around size address before) entry flag i in
      ap (λ (c : ℕ → Mv). cond (may_name g before entry) (unit_by c entry mv ∷ []) []) candidates

  same_mode : (size address : ℕ) (before : Before) →
      luma_mode g size address before ≡ luma_mode by_other size address before
  unfolding luma_mode score
  same_mode size address before = refl

  same_predictions : (size address : ℕ) (before : Before) →
      predictions g size address before ≡ predictions by_other size address before
  same_predictions size address before =
      let first = same_inter size address before 0 _ in
      let second = same_inter size address before 1 _ in
      let mode = same_mode size address before in
      λ i. first i ++ (second i ++ Intra (mode i) ∷ [])

  same_cost : (size address : ℕ) (before : Before) (tree : Tree) →
      cost_of g size address before tree ≡ cost_of by_other size address before tree
  unfolding cost_of
  same_cost size address before tree =
      let errors : ℕ =
      squared_errors g.input (decoded_behind g size address tree before.decoded)
      (node_square g size address) in
      ap (λ (t : Tree). cost g.qp errors
      (length (bins_of_node g.surroundings size address before.earlier t)))
      (same_coded g.distances other same g.surroundings.look size address before.earlier tree)

  each_any : (trees : List Tree) → Each (λ tree. Unit {0}) trees
  each_any [] = tt
  each_any (tree ∷ trees) = (tt, each_any trees)

  best_by_distances : (size address : ℕ) (before : Before) → IsNode size address →
      best g size address before ≡ best by_other size address before
  best_by_distances =
      best_alike g.effort g.qp g.input g.surroundings g.distances other g.vectors g.vectors
      (λ tree. Unit {0})
      (record {
        costs = λ size address before tree good. same_cost size address before tree;
        units = λ size address before. each_any _;
        splits = λ size address before. tt;
        tried = λ size address before node. same_predictions size address before;
      })

-- ---- the blocks of a picture

module _ (task : Task) (other : Distances)
    (same : (entry : ℕ) → distance task.distances entry ≡ distance other entry) where
  each_block : (places : List Site) → Each (IsChosenAlike task other task.vectors) places
  each_block [] = tt
  each_block (here ∷ places) = (
    λ done d.
        best_by_distances (given_at task here done) other same greatest_size 0
        (record { decoded = d; earlier = [] })
        (record { few = omega arith; inside = omega arith; even = refl }),
    each_block places,
  )

  pub chosen_by_distances : (places : List Site) (d : Decoded) →
      ChooseTheSame task (record task { distances = other }) places [] d
  chosen_by_distances places d =
      let trees = trees_alike task other task.vectors places (each_block places) [] d in record {
        trees = trees;
        coded =
            same_all task.distances other same places [] (best_trees task places [] d) ∙
            ap (trees_with_differences other places []) trees;
        decoded = decoded_alike task other task.vectors places (each_block places) [] d;
      }
