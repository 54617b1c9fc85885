-- The node that motion search has for a node of a block's quadtree (6.5.2): by its corner in the
-- picture and its side. So what was found for the one is asked for by the other, and vectors that
-- are those of a definition at each node that is searched are so at each that is chosen.
use Rattle.std.proofs.Common.{◌≡◌, ℕ, ◌+◌, ◌-◌, ◌*◌, ◌/◌, ◌%◌, ◌^◌, ◌<◌, ◌≤◌, true, refl, ap, ap₂, ◌∙◌, arith}
use Rattle.std.specs.Prelude.{nat_eq, not, ◌&&◌, ◌||◌, Bool}
use Rattle.std.proofs.Math.Nat.{div-add-mod}
use Rattle.std.proofs.lemmas.Bool.{and_parts, eqb-true, eq-eqb}
use Rattle.hv_lemmas.proofs.ComputedLemmas.{all_below, holds_below}
use Rattle.hv_lemmas.proofs.BooleanLemmas.{or_right}
use Rattle.hv_plan.specs.declared.place.Node.{Node}
use Rattle.hv_tree_model.specs.Trees.{side}
use Rattle.hv_tree_model.specs.Sites.{Site, site, blocks_over, column_of, row_of, squares, x0, y0}
use Rattle.hv_tree_model.proofs.NodeLemmas.{IsNode as IsCorner}
use Rattle.hv_unit_model.proofs.GeometryLemmas.{place_of_address}
use Rattle.hv_mode_model.specs.ModeDecision.{FoundVectors}
use Rattle.hv_mode_model.specs.NodeLaws.{FindTheSame}
use Rattle.hv_search.specs.Motion.{Motion, IsNode, block_count, node_x, node_y, node_side, vector_of}
use Rattle.hv_mode.specs.Motions.{depth_of_side, node_at, block_at, found_in}

-- a place in a block, of a row of blocks
block_part : (a c : ℕ) → c < 8 → (64 * a + 8 * c) / 64 ≡ a
block_part a c below = omega (arith, below)

own_part : (a c : ℕ) → c < 8 → (64 * a + 8 * c) % 64 / 8 ≡ c
own_part a c below = omega (arith, below)

-- ---- sides and depths

depth_is : (size : ℕ) → size ≤ 3 → depth_of_side (side size) ≡ 3 - size
depth_is size few =
    eqb-true _ _
    (holds_below 4 (λ n. nat_eq (depth_of_side (side n)) (3 - n)) refl size (omega (arith, few)))

side_is : (size : ℕ) → size ≤ 3 → 64 / 2 ^ (3 - size) ≡ side size
side_is size few =
    eqb-true _ _
    (holds_below 4 (λ n. nat_eq (64 / 2 ^ (3 - n)) (side n)) refl size (omega (arith, few)))

-- ---- corners

corner_test : ℕ → ℕ → Bool
corner_test size address =
    not (nat_eq (address % squares size) 0) ||
    nat_eq (column_of address % (8 / 2 ^ (3 - size))) 0 &&
    nat_eq (row_of address % (8 / 2 ^ (3 - size))) 0

corners : all_below 4 (λ size. all_below 64 (corner_test size)) ≡ true
unfolding corner_test column_of row_of
corners = refl

-- the node of this size at an address of the block, as motion search has it
abbrev pub searched_node : ℕ → ℕ → Node
searched_node size address =
    record { depth = 3 - size; x = column_of address; y = row_of address }

pub searched_is_node : (size address : ℕ) → IsCorner size address →
    IsNode (searched_node size address)
unfolding corner_test
searched_is_node size address node =
    let few = node.few in
    let place = place_of_address address node.inside in
    let here =
    holds_below 64 (corner_test size)
    (holds_below 4 (λ n. all_below 64 (corner_test n)) corners size (omega (arith, few))) address
    node.inside in
    let even = eq-eqb (address % squares size) 0 node.even in
    let both =
    and_parts _ _ (or_right (not (nat_eq (address % squares size) 0)) _ here (rw even refl)) in
    record {
      depth = omega arith;
      x = place.1;
      y = place.2;
      column = eqb-true _ _ both.0;
      row = eqb-true _ _ both.1;
    }

-- ---- where a node lies

module _ (width height index size address : ℕ) (node : IsCorner size address) where
  abbrev here : Site
  here = site width height index

  block_is : block_at width (x0 here address) (y0 here address) ≡ index
  block_is =
      let n : ℕ = blocks_over width in
      let place = place_of_address address node.inside in
      ap₂ (λ row column. n * row + column) (block_part (index / n) (row_of address) place.2)
      (block_part (index % n) (column_of address) place.1) ∙
      div-add-mod index n

  node_is : node_at (x0 here address) (y0 here address) (side size) ≡ searched_node size address
  node_is =
      let n : ℕ = blocks_over width in
      let place = place_of_address address node.inside in
      let depth = depth_is size node.few in
      let column = own_part (index % n) (column_of address) place.1 in
      let row = own_part (index / n) (row_of address) place.2 in
      λ i. record { depth = depth i; x = column i; y = row i }

-- what was found is asked for at the same node of the same block
pub found_here : (m : Motion) (height index size address entry : ℕ) → IsCorner size address →
    found_in m entry (x0 (site m.width height index) address)
    (y0 (site m.width height index) address) (side size) ≡
    vector_of m entry index (searched_node size address)
found_here m height index size address entry node =
    ap₂ (vector_of m entry) (block_is m.width height index size address node)
    (node_is m.width height index size address node)

-- Vectors that are those of a definition at each node of a block are found so.
pub found_as_searched : (m : Motion) (other : FoundVectors) →
    ((entry index : ℕ) (node : Node) → index < block_count m → IsNode node →
    vector_of m entry index node ≡
    other entry (node_x m.width index node) (node_y m.width index node) (node_side node)) →
    (index : ℕ) → index < block_count m →
    FindTheSame (site m.width m.height index) (found_in m) other
found_as_searched m other each index below entry size address few inside even =
    let node : IsCorner size address =
    record { few = few; inside = inside; even = even } in
    let place : Site = site m.width m.height index in
    found_here m m.height index size address entry node ∙
    each entry index (searched_node size address) below (searched_is_node size address node) ∙
    ap (other entry (x0 place address) (y0 place address)) (side_is size few)
