-- The vectors of a picture of a group, by nodes: each is that of the definition.
use Rattle.std.proofs.Common.{◌≡◌, ℕ, zero, suc, ◌+◌, ◌*◌, ◌/◌, ◌%◌, ◌^◌, ◌<◌, ◌≤◌, Bool, true, false, cond, ◌||◌, ◌&&◌, nat_eq, nat_lt, List, [], length, refl, arith, sym, subst, ap, ap₂, ◌∙◌}
use Rattle.std.specs.Prelude.{Option, Some, None, slice_get, nat_le, option_map}
use Rattle.std.specs.Option.{option_and_then}
use Rattle.std.proofs.lemmas.Option.{slice_get_past, slice_get-get_or}
use mathlib.Core.Logic.{◌⊎◌, inl, inr}
use Rattle.std.proofs.lemmas.Bool.{cases_lt}
use Rattle.hv_lemmas.proofs.ComparisonLemmas.{le_below, le_not_below, lt_below, lt_not_below, other_than_0}
use Rattle.hv_types.specs.GroupInput.{GroupInput}
use Rattle.hv_types.specs.Samples.{Plane}
use Rattle.hv_plan.specs.declared.prediction.Mv.{Mv}
use Rattle.hv_plan.specs.declared.place.Node.{Node}
use Rattle.hv_filter_model.specs.Blocks.{luma_side, blocks_over}
use Rattle.hv_search_model.specs.MotionSearch.{luma_of, reference_of, vector_between, node_vector, best_vector, scores_of, motion}
use Rattle.hv_search.specs.Numbers.{side_of, left_of, top_of, no_vector, IsInside}
use Rattle.hv_search.specs.Motion.{Motion, IsNode, node_side, node_x, node_y, number_of, block_count, is_inside, vectors_at, vector_of}
use Rattle.hv_decision.proofs.OrderLemmas.{orders}
use Rattle.hv_group_model.specs.Structure.{coded_of}
use Rattle.hv_search.specs.Searched.{IsSearched, AreVectorsTo}

pub luma_past : (group : GroupInput) (k : ℕ) → length group.pictures ≤ k → luma_of group k ≡ None
luma_past group k past = ap (option_map (λ picture. picture.luma)) (slice_get_past group.pictures k past)

pub searched_none : (group : GroupInput) (effort : ℕ) (input : Plane) (reference : Option ℕ) (vectors : List Mv) →
    option_and_then (luma_of group) reference ≡ None → vectors ≡ [] → IsSearched group effort input reference vectors
searched_none group effort input reference vectors none e =
    subst (λ o. AreVectorsTo effort input o vectors) (sym none) e

-- ---- where the node of a number lies

pub record IsPlaced (n x y side : ℕ) : Type 0 where
  pub left : left_of n ≡ 8 * x
  pub top : top_of n ≡ 8 * y
  pub side_is : side_of n ≡ side
  pub below : n < 85

placed : (depth x y : ℕ) → depth ≤ 3 → x < 8 → y < 8 → x % (8 / 2 ^ depth) ≡ 0 → y % (8 / 2 ^ depth) ≡ 0 →
    IsPlaced (number_of (record { depth = depth; x = x; y = y })) x y (64 / 2 ^ depth)
placed zero x y d h k e f =
    record { left = grind arith; top = grind arith; side_is = grind arith; below = grind arith }
placed (suc zero) x y d h k e f =
    record { left = grind arith; top = grind arith; side_is = grind arith; below = grind arith }
placed (suc (suc zero)) x y d h k e f =
    record { left = grind arith; top = grind arith; side_is = grind arith; below = grind arith }
placed (suc (suc (suc zero))) x y d h k e f =
    record { left = grind arith; top = grind arith; side_is = grind arith; below = grind arith }
placed (suc (suc (suc (suc n)))) x y d h k e f = absurd (omega (arith, d))

either : (b : Bool) → cond {A = Option Mv} b None None ≡ None
either true = refl
either false = refl

-- ---- the vector of a node, where effort is made

module _ (effort : ℕ) (input : Plane) (m : Motion) (index : ℕ) (node : Node) (wide : m.width ≡ input.width)
    (high : m.height ≡ input.height) (some : 0 < effort) (there : index < block_count m) (is_node : IsNode node) where
  abbrev x : ℕ
  x = node_x m.width index node

  abbrev y : ℕ
  y = node_y m.width index node

  abbrev side : ℕ
  side = node_side node

  abbrev n : ℕ
  n = number_of node

  here : IsPlaced n node.x node.y side
  here = placed node.depth node.x node.y is_node.depth is_node.x is_node.y is_node.column is_node.row

  found : (reference : Plane) (vectors : List Mv) → AreVectorsTo effort input (Some reference) vectors →
      x + side ≤ input.width → y + side ≤ input.height →
      slice_get vectors (85 * index + n) ≡ Some (best_vector effort (scores_of input reference x y side))
  found reference vectors are across down =
      let blocks : ℕ = blocks_over luma_side input.width in
      let before : index < blocks * blocks_over luma_side input.height =
      subst (λ c. index < c) (ap₂ (λ w h. blocks_over luma_side w * blocks_over luma_side h) wide high) there in
      let column : index % blocks_over luma_side m.width ≡ index % blocks = ap (λ w. index % blocks_over luma_side w) wide in
      let row : index / blocks_over luma_side m.width ≡ index / blocks = ap (λ w. index / blocks_over luma_side w) wide in
      let at_x : 64 * (index % blocks) + left_of n ≡ x = omega (arith, column, here.left) in
      let at_y : 64 * (index / blocks) + top_of n ≡ y = omega (arith, row, here.top) in
      let inside : IsInside input (64 * (index % blocks)) (64 * (index / blocks)) n =
      record { across = omega (arith, at_x, here.side_is, across); down = omega (arith, at_y, here.side_is, down) } in
      slice_get-get_or vectors (85 * index + n) no_vector (omega (arith, are.long, before, here.below)) ∙
      ap Some (are.each index n before here.below inside ∙
      ap₂ (λ a b. best_vector effort (scores_of input reference a b (side_of n))) at_x at_y ∙
      ap (λ c. best_vector effort (scores_of input reference x y c)) here.side_is)

  searched_is : (reference : Option Plane) (vectors : List Mv) → AreVectorsTo effort input reference vectors →
      cond (is_inside m index node) (slice_get vectors (85 * index + n)) None ≡
      vector_between effort (Some input) reference x y side
  unfolding node_vector
  searched_is None vectors are =
      ap (λ l. cond (is_inside m index node) (slice_get l (85 * index + n)) None) are ∙ either (is_inside m index node)
  searched_is (Some reference) vectors are = by_edges (cases_lt input.width (x + side)) (cases_lt input.height (y + side))
    where
      kept : Option Mv
      kept = slice_get vectors (85 * index + n)

      best : Option Mv
      best = Some (best_vector effort (scores_of input reference x y side))

      left_hand : Bool → Bool → Option Mv
      left_hand a b = cond (a && b) kept None

      right_hand : Bool → Bool → Bool → Option Mv
      right_hand e a b = cond (e || (a || b)) None best

      above_0 : nat_eq effort 0 ≡ false
      above_0 = other_than_0 effort some

      by_edges : (input.width < x + side) ⊎ (x + side ≤ input.width) → (input.height < y + side) ⊎ (y + side ≤ input.height) →
          left_hand (nat_le (x + side) m.width) (nat_le (y + side) m.height) ≡
          right_hand (nat_eq effort 0) (nat_lt input.width (x + side)) (nat_lt input.height (y + side))
      by_edges (inl a) b =
          ap (λ t. cond (t && nat_le (y + side) m.height) kept None) (le_not_below (x + side) m.width (omega (arith, a, wide))) ∙
          sym (ap₂ (λ e t. cond (e || (t || nat_lt input.height (y + side))) None best) above_0 (lt_below input.width (x + side) a))
      by_edges (inr a) (inl b) =
          ap₂ (λ t u. cond (t && u) kept None) (le_below (x + side) m.width (omega (arith, a, wide))) (le_not_below (y + side) m.height (omega (arith, b, high))) ∙
          sym (ap₂ (λ e t. cond (e || (t || nat_lt input.height (y + side))) None best) above_0 (lt_not_below input.width (x + side) a) ∙
          ap (λ u. cond u None best) (lt_below input.height (y + side) b))
      by_edges (inr a) (inr b) =
          ap₂ (λ t u. cond (t && u) kept None) (le_below (x + side) m.width (omega (arith, a, wide))) (le_below (y + side) m.height (omega (arith, b, high))) ∙
          found reference vectors are a b ∙
          sym (ap₂ (λ e t. cond (e || (t || nat_lt input.height (y + side))) None best) above_0 (lt_not_below input.width (x + side) a) ∙
          ap (λ u. cond u None best) (lt_not_below input.height (y + side) b))

-- ---- the vectors of a picture

pub searched_as : (group : GroupInput) (input : Plane) (effort e : ℕ) (given r : Option ℕ) (vectors : List Mv) →
    effort ≡ e → given ≡ r → IsSearched group effort input given vectors → IsSearched group e input r vectors
searched_as group input effort e given r vectors same other is =
    subst (λ v. IsSearched group v input r vectors) same (subst (λ o. IsSearched group effort input o vectors) other is)

pub no_third : (group : GroupInput) (k : ℕ) → 1 ≤ length group.pictures → length group.pictures ≤ 64 →
    group.config.levels ≤ 3 → k < length group.pictures → (entry : ℕ) → 2 ≤ entry → reference_of group k entry ≡ None
no_third group k some most few below entry from =
    let order = orders (length group.pictures) group.config.levels some most few in
    slice_get_past (coded_of (length group.pictures) group.config.levels k).references entry
    (omega (arith, order.references_most k below, from))

module _ (group : GroupInput) (k : ℕ) (input : Plane) (m : Motion) (there : luma_of group k ≡ Some input)
    (references : (entry : ℕ) → 2 ≤ entry → reference_of group k entry ≡ None)
    (wide : m.width ≡ input.width) (high : m.height ≡ input.height) where
  pub motion_is : 0 < group.config.effort →
      IsSearched group group.config.effort input (reference_of group k 0) m.first →
      IsSearched group group.config.effort input (reference_of group k 1) m.second →
      (entry index : ℕ) (node : Node) → index < block_count m → IsNode node →
      vector_of m entry index node ≡ motion group k entry (node_x m.width index node) (node_y m.width index node) (node_side node)
  unfolding motion
  motion_is some first second zero index node before is_node =
      searched_is group.config.effort input m index node wide high some before is_node (option_and_then (luma_of group) (reference_of group k 0)) m.first first ∙
      ap (λ o. vector_between group.config.effort o (option_and_then (luma_of group) (reference_of group k 0)) (node_x m.width index node) (node_y m.width index node) (node_side node)) (sym there)
  motion_is some first second (suc zero) index node before is_node =
      searched_is group.config.effort input m index node wide high some before is_node (option_and_then (luma_of group) (reference_of group k 1)) m.second second ∙
      ap (λ o. vector_between group.config.effort o (option_and_then (luma_of group) (reference_of group k 1)) (node_x m.width index node) (node_y m.width index node) (node_side node)) (sym there)
  motion_is some first second (suc (suc entry)) index node before is_node =
      either (is_inside m index node) ∙
      sym (ap₂ (λ o r. vector_between group.config.effort o (option_and_then (luma_of group) r) (node_x m.width index node) (node_y m.width index node) (node_side node)) there (references (suc (suc entry)) (omega arith)))

  no_motion : (o : Option Plane) (a b c : ℕ) → vector_between 0 (Some input) o a b c ≡ None
  unfolding node_vector
  no_motion None a b c = refl
  no_motion (Some reference) a b c = refl

  at_entry : m.first ≡ [] → m.second ≡ [] → (entry : ℕ) → vectors_at m entry ≡ []
  at_entry e f zero = e
  at_entry e f (suc zero) = f
  at_entry e f (suc (suc entry)) = refl

  pub no_motion_is : group.config.effort ≡ 0 → m.first ≡ [] → m.second ≡ [] →
      (entry index : ℕ) (node : Node) → index < block_count m → IsNode node →
      vector_of m entry index node ≡ motion group k entry (node_x m.width index node) (node_y m.width index node) (node_side node)
  unfolding motion
  no_motion_is none e f entry index node before is_node =
      ap (λ l. cond (is_inside m index node) (slice_get l (85 * index + number_of node)) None) (at_entry e f entry) ∙
      either (is_inside m index node) ∙
      sym (ap₂ (λ v o. vector_between v o (option_and_then (luma_of group) (reference_of group k entry)) (node_x m.width index node) (node_y m.width index node) (node_side node)) none there ∙
      no_motion (option_and_then (luma_of group) (reference_of group k entry)) (node_x m.width index node) (node_y m.width index node) (node_side node))
