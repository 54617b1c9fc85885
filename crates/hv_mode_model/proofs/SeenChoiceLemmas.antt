-- What is chosen for a node is the same in surroundings that see the same from the column and the
-- row before the block on: bins and the candidates of a mode or a vector ask for nothing else, and
-- nothing else asks for what is seen. So what is chosen in a block is what is chosen in the picture.
use Rattle.std.proofs.Common.{◌≡◌, ℕ, zero, suc, ◌+◌, ◌*◌, ◌≤◌, cond, List, [], ◌∷◌, ◌++◌, length, map, refl, ap, ap₂, ◌∙◌, arith}
use Rattle.std.specs.Prelude.{nat_eq, Option, Some, None}
use Rattle.hv_plan.specs.declared.prediction.Mv.{Mv}
use Rattle.hv_tables.specs.declared.bins.SliceKind.{SliceKind}
use Rattle.hv_types.specs.declared.picture.Picture.{Picture}
use Rattle.hv_tree_model.specs.Trees.{Prediction, Intra, Tree, Leaf, Split, Outside, greatest_size, no_units}
use Rattle.hv_tree_model.specs.Sites.{Site, squares, is_outside, must_split}
use Rattle.hv_tree_model.specs.EarlierUnits.{Look, look_picture}
use Rattle.hv_tree_model.specs.MostProbableModes.{planar, dc}
use Rattle.hv_unit_model.specs.Bins.{luma_mode_bins, mvd_bins, bins_of_node}
use Rattle.hv_tree_model.specs.Plans.{Plan, UnitsAround, look_around}
use Rattle.hv_unit_model.specs.PlanLaws.{squares_before, ArePlansBefore, LieAround}
use Rattle.hv_unit_model.proofs.AroundLemmas.{blocks_around}
use Rattle.hv_unit_model.proofs.SeenBinsLemmas.{SeeTheSame, behind as squares_behind, same_candidates, same_bins}
use Rattle.hv_filter_model.specs.Costs.{cost, first_least}
use Rattle.hv_filter_model.proofs.CostLemmas.{first_least_same}
use Rattle.hv_mode_model.specs.ModeDecision.{FoundVectors, Given, Before, behind, decoded_behind, node_square, leaf, further_modes, absolute_differences, mode_bin_weight, score, luma_mode, may_name, predictor, inter_from, inter_by, predictions, squared_errors, coded_node, cost_of, least_of, chosen, split_of, best}
use Rattle.hv_mode_model.specs.Differences.{candidate, difference, tree_with_differences}
use Rattle.hv_vector_model.specs.declared.motion.Neighbourhood.{Neighbourhood}
use Rattle.hv_vector_model.specs.VectorPrediction.{Distances}
use Rattle.hv_mode_model.proofs.NeighbourLemmas.{seen_around, differences_seen}
use Rattle.hv_mode_model.specs.ModeLaws.{ChoicesInBlockAreThoseInPicture}

module _ (effort qp : ℕ) (input : Picture) (slice_type : SliceKind) (references : ℕ)
    (distances : Distances) (vectors : FoundVectors) (here : Site) (one other : Look)
    (same : SeeTheSame one other) where
  abbrev given : Look → Given
  given look = record {
    effort = effort;
    qp = qp;
    input = input;
    surroundings = record {
      slice_type = slice_type;
      references = references;
      site = here;
      look = look;
    };
    distances = distances;
    vectors = vectors;
  }

  abbrev g : Given
  g = given one

  abbrev h : Given
  h = given other

  -- ---- predictions

  -- a unit by what is around it
  abbrev unit_by : Neighbourhood → ℕ → Mv → Prediction
  unit_by n entry mv =
      let bins : ℕ → ℕ = λ flag. length (mvd_bins (difference mv (candidate distances n entry flag)))
      in
      let flag : ℕ = first_least bins 0 (1 ∷ []) in
      inter_from (candidate distances n entry flag) mv entry flag

  same_inter : (size address : ℕ) (before : Before) (entry : ℕ) (mv : Option Mv) →
      size ≤ greatest_size → length before.earlier ≤ 64 →
      inter_by g size address before entry mv ≡ inter_by h size address before entry mv
  unfolding predictor
  same_inter size address before entry None small few = refl
  same_inter size address before entry (Some mv) small few =
      ap (λ n. cond (may_name g before entry) (unit_by n entry mv ∷ []) [])
      (seen_around distances one other same size address before.earlier small few)

  same_score : (size address : ℕ) (before : Before) → length before.earlier ≤ 64 → (mode : ℕ) →
      score g size address before mode ≡ score h size address before mode
  unfolding score
  same_score size address before few mode =
      ap (λ (list : List ℕ). absolute_differences g size address before mode +
      length (luma_mode_bins list mode) * mode_bin_weight qp)
      (same_candidates slice_type references here one other same address before.earlier few)

  same_mode : (size address : ℕ) (before : Before) → length before.earlier ≤ 64 →
      luma_mode g size address before ≡ luma_mode h size address before
  unfolding luma_mode
  same_mode size address before few =
      first_least_same (score g size address before) (score h size address before) planar
      (further_modes effort) (same_score size address before few)

  same_predictions : (size address : ℕ) (before : Before) → size ≤ greatest_size →
      length before.earlier ≤ 64 →
      predictions g size address before ≡ predictions h size address before
  same_predictions size address before small few =
      let first = same_inter size address before 0 _ small few in
      let second = same_inter size address before 1 _ small few in
      let mode = same_mode size address before few in
      λ i. first i ++ (second i ++ Intra (mode i) ∷ [])

  -- ---- costs

  same_cost : (size address : ℕ) (before : Before) → size ≤ greatest_size →
      length before.earlier + squares size ≤ 64 → (tree : Tree) →
      cost_of g size address before tree ≡ cost_of h size address before tree
  unfolding cost_of
  same_cost size address before small few tree =
      let errors : ℕ =
      squared_errors input (decoded_behind g size address tree before.decoded)
      (node_square g size address) in
      ap (λ bins. cost qp errors (length bins))
      (ap (λ (t : Tree). bins_of_node g.surroundings size address before.earlier t)
      (differences_seen distances one other same size address before.earlier tree small few) ∙
      same_bins slice_type references here one other same size address before.earlier
      (coded_node h size address before tree) few)

  same_least : (size address : ℕ) (before : Before) → size ≤ greatest_size →
      length before.earlier + squares size ≤ 64 → (trees : List Tree) →
      least_of g size address before trees ≡ least_of h size address before trees
  same_least size address before small few [] = refl
  same_least size address before small few (tree ∷ trees) =
      first_least_same (cost_of g size address before) (cost_of h size address before) tree trees
      (same_cost size address before small few)

  -- ---- nodes

  same_units : (size address : ℕ) (before : Before) (ps : List Prediction) →
      map (leaf g size address before) ps ≡ map (leaf h size address before) ps
  unfolding leaf
  same_units size address before ps = refl

  same_chosen : (size address : ℕ) (before : Before) (splits parts : List Tree) →
      size ≤ greatest_size → length before.earlier + squares size ≤ 64 → splits ≡ parts →
      chosen g size address before splits ≡ chosen h size address before parts
  unfolding chosen
  same_chosen size address before splits parts small few alike =
      let ps : List Prediction = predictions g size address before in
      let trees : map (leaf g size address before) ps ++ splits ≡
      map (leaf h size address before) (predictions h size address before) ++ parts =
      ap (λ list. list ++ splits) (same_units size address before ps) ∙
      ap₂ (λ list rest. map (leaf h size address before) list ++ rest)
      (same_predictions size address before small (omega (arith, few))) alike in
      ap (λ tree. cond (nat_eq effort 0) (Leaf (Intra dc) (no_units size)) tree)
      (same_least size address before small few (map (leaf g size address before) ps ++ splits) ∙
      ap (least_of h size address before) trees)

  same_split : (size address : ℕ) (before : Before) →
      length before.earlier + 4 * squares size ≤ 64 →
      ((address : ℕ) (before : Before) → length before.earlier + squares size ≤ 64 →
      best g size address before ≡ best h size address before) →
      split_of g size address before (best g size) ≡ split_of h size address before (best h size)
  same_split size address before few each =
      let n : ℕ = squares size in
      let a : Tree = best g size address before in
      let behind_a : Before = behind g size address a before in
      let b : Tree = best g size (address + n) behind_a in
      let behind_b : Before = behind g size (address + n) b behind_a in
      let c : Tree = best g size (address + 2 * n) behind_b in
      let behind_c : Before = behind g size (address + 2 * n) c behind_b in
      let la = squares_behind size before.earlier a in
      let lb = squares_behind size behind_a.earlier b in
      let lc = squares_behind size behind_b.earlier c in
      let after_a : Tree → Before = λ tree. behind h size address tree before in
      let first = each address before (omega (arith, few)) in
      let second =
      each (address + n) behind_a (omega (arith, few, la)) ∙
      ap (λ tree. best h size (address + n) (after_a tree)) first in
      let third =
      each (address + 2 * n) behind_b (omega (arith, few, la, lb)) ∙
      ap₂ (λ s t. best h size (address + 2 * n) (behind h size (address + n) t (after_a s)))
      first second in
      let fourth =
      each (address + 3 * n) behind_c (omega (arith, few, la, lb, lc)) ∙
      (λ i. best h size (address + 3 * n) (behind h size (address + 2 * n) (third i)
      (behind h size (address + n) (second i) (after_a (first i))))) in
      λ i. Split (first i) (second i) (third i) (fourth i)

  pub same_best : (size address : ℕ) (before : Before) → size ≤ greatest_size →
      length before.earlier + squares size ≤ 64 →
      best g size address before ≡ best h size address before
  unfolding best
  same_best zero address before small few =
      ap (λ tree. cond (is_outside here address) Outside tree)
      (same_chosen 0 address before [] [] small few refl)
  same_best (suc size) address before small few =
      let below : size ≤ greatest_size = omega (arith, small) in
      let parts =
      same_split size address before few (λ address before. same_best size address before below) in
      ap₂ (λ tree unit. cond (is_outside here address) Outside
      (cond (must_split here (suc size) address) tree unit))
      parts
      (same_chosen (suc size) address before _ _ small few (ap (λ tree. tree ∷ []) parts))

pub chosen_in_block : ChoicesInBlockAreThoseInPicture
chosen_in_block task here plans around d before lies =
    same_best task.effort task.qp task.input task.slice_type task.references task.distances
    task.vectors here
    (look_around here around) (look_picture here (squares_before here plans))
    (λ e column row short left right top low.
    blocks_around here plans around e column row before lies short left right top low)
    greatest_size 0 (record { decoded = d; earlier = [] }) (omega arith) (omega arith)

-- what is coded of a tree
pub coded_in_block : (distances : Distances) (here : Site) (plans : List Plan)
    (around : UnitsAround) (tree : Tree) → ArePlansBefore here plans →
    LieAround here plans around →
    tree_with_differences distances (look_around here around) greatest_size 0 [] tree ≡
    tree_with_differences distances (look_picture here (squares_before here plans)) greatest_size 0
    [] tree
coded_in_block distances here plans around tree before lies =
    differences_seen distances (look_around here around)
    (look_picture here (squares_before here plans))
    (λ e column row short left right top low.
    blocks_around here plans around e column row before lies short left right top low)
    greatest_size 0 [] tree (omega arith) (omega arith)
