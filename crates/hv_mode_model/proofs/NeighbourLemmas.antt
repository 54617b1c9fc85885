-- The five squares around a node move as in the picture (8.5.3.2.7): what is seen of the blocks
-- around is what is seen in the picture, also of units that know their vectors. Where the same is
-- seen, the same is coded of a tree with vectors.
use Rattle.std.proofs.Common.{◌≡◌, ℕ, zero, suc, ◌+◌, ◌-◌, ◌*◌, ◌^◌, ◌<◌, ◌≤◌, Bool, List, length, map, refl, sym, ap, ◌∙◌, arith}
use Rattle.std.specs.Prelude.{nat_le, slice_get, Option, Some, None, option_map}
use Rattle.std.proofs.lemmas.Bool.{leb-true}
use Rattle.std.proofs.lemmas.List.{length-map}
use Rattle.std.proofs.lemmas.Option.{slice_get-map}
use Rattle.hv_lemmas.proofs.ComputedLemmas.{holds_below}
use Rattle.hv_plan.specs.declared.prediction.Unit.{Unit}
use Rattle.hv_tree_model.specs.Sites.{Site, squares, column_of, row_of}
use Rattle.hv_tree_model.specs.Trees.{Tree, Leaf, Split, Outside}
use Rattle.hv_tree_model.specs.EarlierUnits.{Square, after, Look, look_picture}
use Rattle.hv_tree_model.specs.Plans.{Plan, UnitEdges, UnitsAround, look_around}
use Rattle.hv_unit_model.specs.PlanLaws.{squares_before, unit_of_plan, AreSeen, LieAround}
use Rattle.hv_unit_model.proofs.AroundLemmas.{blocks_around}
use Rattle.hv_unit_model.proofs.SeenBinsLemmas.{SeeTheSame, behind as squares_behind}
use Rattle.hv_unit_model.proofs.GeometryLemmas.{place_of_address}
use Rattle.hv_inter_model.specs.UnitVectors.{unit_with_vector}
use Rattle.hv_vector_model.specs.VectorPrediction.{Distances}
use Rattle.hv_mode_model.specs.Differences.{prediction_with_difference, tree_with_differences}
use Rattle.hv_vector_model.specs.Vectors.{neighbourhood_of, plan_with_vectors, edges_with_vectors, around_with_vectors}
use Rattle.hv_mode_model.specs.NeighbourLaws.{NeighbourhoodsInBlockAreThoseInPicture}

-- ---- edges of plans that know their vectors

unit_with : (plan : Option Plan) (a : ℕ) →
    option_map unit_with_vector (unit_of_plan plan a) ≡
    unit_of_plan (option_map plan_with_vectors plan) a
unit_with None a = refl
unit_with (Some plan) a = sym (slice_get-map unit_with_vector plan.units a)

-- a unit at an edge, which is that of a plan
at_edge : (units : List Unit) (plans : List Plan) (k i a : ℕ) →
    slice_get units i ≡ unit_of_plan (slice_get plans k) a →
    slice_get (map unit_with_vector units) i ≡
    unit_of_plan (slice_get (map plan_with_vectors plans) k) a
at_edge units plans k i a e =
    slice_get-map unit_with_vector units i ∙ ap (option_map unit_with_vector) e ∙
    unit_with (slice_get plans k) a ∙
    ap (λ o. unit_of_plan o a) (sym (slice_get-map plan_with_vectors plans k))

seen_with : (has_block : Bool) (plans : List Plan) (k : ℕ) (edges : Option UnitEdges) →
    AreSeen has_block plans k edges →
    AreSeen has_block (map plan_with_vectors plans) k (edges_with_vectors edges)
seen_with has_block plans k None seen = seen
seen_with has_block plans k (Some edges) seen = (
  seen.0,
  record {
    right_count = length-map edges.right unit_with_vector ∙ seen.1.right_count;
    right = λ row h. at_edge edges.right plans k row _ (seen.1.right row h);
    bottom_count = length-map edges.bottom unit_with_vector ∙ seen.1.bottom_count;
    bottom = λ column h. at_edge edges.bottom plans k column _ (seen.1.bottom column h);
  },
)

pub around_with : (here : Site) (plans : List Plan) (around : UnitsAround) →
    LieAround here plans around →
    LieAround here (map plan_with_vectors plans) (around_with_vectors around)
around_with here plans around lies = record {
  left = seen_with _ plans _ around.left lies.left;
  above_left = seen_with _ plans _ around.above_left lies.above_left;
  above = seen_with _ plans _ around.above lies.above;
  above_right = seen_with _ plans _ around.above_right lies.above_right;
}

-- ---- the five squares

small_sides : (size : ℕ) → size ≤ 3 → 2 ^ size ≤ 8
small_sides size h =
    let t = holds_below 4 (λ n. nat_le (2 ^ n) 8) refl size (omega (arith, h)) in leb-true _ _ t

large_sides : (size : ℕ) → size ≤ 3 → 1 ≤ 2 ^ size
large_sides size h =
    let t = holds_below 4 (λ n. nat_le 1 (2 ^ n)) refl size (omega (arith, h)) in leb-true _ _ t

-- in surroundings that see the same from the column and the row before a block on
pub same_neighbourhood : (one other : Look) → SeeTheSame one other → (size address : ℕ)
    (earlier : List Square) → size ≤ 3 → column_of address < 8 → row_of address < 8 →
    length earlier ≤ 64 →
    neighbourhood_of one size address earlier ≡ neighbourhood_of other size address earlier
same_neighbourhood one other same size address earlier few column_below row_below short =
    let most = small_sides size few in
    let least = large_sides size few in
    let x : ℕ = 8 + column_of address in
    let y : ℕ = 8 + row_of address in
    let at : (column row : ℕ) → 7 ≤ column → column < 24 → 7 ≤ row → row < 24 →
    one earlier column row ≡ other earlier column row =
    λ column row. same earlier column row short in
    rw (
      at (x - 1) (y + 2 ^ size) (omega arith) (omega (arith, column_below)) (omega arith)
          (omega (arith, row_below, most)),
      at (x - 1) (y + 2 ^ size - 1) (omega arith) (omega (arith, column_below))
          (omega (arith, least)) (omega (arith, row_below, most)),
      at (x + 2 ^ size) (y - 1) (omega arith) (omega (arith, column_below, most)) (omega arith)
          (omega (arith, row_below)),
      at (x + 2 ^ size - 1) (y - 1) (omega (arith, least)) (omega (arith, column_below, most))
          (omega arith) (omega (arith, row_below)),
      at (x - 1) (y - 1) (omega arith) (omega (arith, column_below)) (omega arith)
          (omega (arith, row_below)),
    ) refl

-- of a node whose squares are those of a block, and what is coded of its tree
module _ (distances : Distances) (one other : Look) (same : SeeTheSame one other) where
  pub seen_around : (size address : ℕ) (earlier : List Square) → size ≤ 3 → length earlier ≤ 64 →
      neighbourhood_of one size address earlier ≡ neighbourhood_of other size address earlier
  unfolding column_of row_of
  seen_around size address earlier small few =
      same_neighbourhood one other same size address earlier small (omega arith) (omega arith) few

  pub differences_seen : (size address : ℕ) (earlier : List Square) (tree : Tree) → size ≤ 3 →
      length earlier + squares size ≤ 64 →
      tree_with_differences distances one size address earlier tree ≡
      tree_with_differences distances other size address earlier tree
  unfolding tree_with_differences
  differences_seen zero address earlier Outside small few = refl
  differences_seen (suc size) address earlier Outside small few = refl
  differences_seen zero address earlier (Leaf p units) small few =
      ap (λ n. Leaf (prediction_with_difference distances n p) units)
      (seen_around zero address earlier small (omega (arith, few)))
  differences_seen (suc size) address earlier (Leaf p units) small few =
      ap (λ n. Leaf (prediction_with_difference distances n p) units)
      (seen_around (suc size) address earlier small (omega (arith, few)))
  differences_seen zero address earlier (Split a b c d) small few = refl
  differences_seen (suc size) address earlier (Split a b c d) small few =
      let n : ℕ = squares size in
      let behind_a : List Square = after size earlier a in
      let behind_b : List Square = after size behind_a b in
      let behind_c : List Square = after size behind_b c in
      let la = squares_behind size earlier a in
      let lb = squares_behind size behind_a b in
      let lc = squares_behind size behind_b c in
      let below : size ≤ 3 = omega (arith, small) in
      let first = differences_seen size address earlier a below (omega (arith, few)) in
      let second =
      differences_seen size (address + n) behind_a b below (omega (arith, few, la)) in
      let third =
      differences_seen size (address + 2 * n) behind_b c below (omega (arith, few, la, lb)) in
      let fourth =
      differences_seen size (address + 3 * n) behind_c d below (omega (arith, few, la, lb, lc)) in
      λ i. Split (first i) (second i) (third i) (fourth i)

pub neighbourhoods_in_picture : NeighbourhoodsInBlockAreThoseInPicture
neighbourhoods_in_picture here plans around size address earlier before lies few inside short =
    let moves : List Plan = map plan_with_vectors plans in
    let near : UnitsAround = around_with_vectors around in
    let place = place_of_address address inside in
    same_neighbourhood (look_around here near) (look_picture here (squares_before here moves))
    (λ e column row short.
    blocks_around here moves near e column row before (around_with here plans around lies) short)
    size address earlier few place.1 place.2 short
