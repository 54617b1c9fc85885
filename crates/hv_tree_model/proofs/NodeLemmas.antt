-- Nodes of a block's quadtree by the addresses of their corners (6.5.2): their squares, the nodes
-- that they are split into, and the nodes of their size at their left and above them. All is
-- computed over the 64 addresses.
use Rattle.std.proofs.Common.{◌≡◌, ℕ, zero, suc, ◌+◌, ◌-◌, ◌*◌, ◌/◌, ◌%◌, ◌^◌, ◌<◌, ◌≤◌, Bool, true, refl, subst, arith, List, length, ap}
use Rattle.std.specs.Prelude.{nat_eq, nat_lt, not, ◌&&◌, ◌||◌, replicate}
use Rattle.std.proofs.lemmas.Bool.{and_parts, ltb-true, eqb-true, eq-eqb}
use Rattle.hv_lemmas.proofs.ComputedLemmas.{all_below, holds_below}
use Rattle.hv_lemmas.proofs.BooleanLemmas.{or_right}
use Rattle.hv_tree_model.specs.Sites.{address_of, column_of, row_of, squares, blocks_over, sites_from}
use Rattle.std.specs.Int.{div_ceil}
use Rattle.hv_tree_model.specs.Trees.{Prediction, TransformUnit, Leaf, depth_of}
use Rattle.hv_tree_model.specs.EarlierUnits.{Coded, squares_of}

pub record IsNode (size address : ℕ) : Type 0 where
  pub few : size ≤ 3
  pub inside : address < 64
  pub even : address % squares size ≡ 0

-- the node of this size around a square
unfoldable pub around : ℕ → ℕ → ℕ
around size address = address / squares size * squares size

-- from the addresses of nodes of a size, what holds of each
node_facts_test : (ℕ → Bool) → ℕ → Bool
node_facts_test holds size = all_below 64 (λ address. not (nat_eq (address % squares size) 0) ||
    holds address)

node_fact : (holds : ℕ → Bool) (size : ℕ) → node_facts_test holds size ≡ true → (address : ℕ) →
    IsNode size address → holds address ≡ true
unfolding node_facts_test
node_fact holds size all address node =
    let here = holds_below 64 (λ a. not (nat_eq (a % squares size) 0) || holds a) all address
    node.inside in
    let is_even = eq-eqb (address % squares size) 0 node.even in
    or_right (not (nat_eq (address % squares size) 0)) (holds address) here (rw is_even refl)

-- the squares of a node, and the nodes of its size or greater around them
part_test : ℕ → ℕ → ℕ → ℕ → Bool
part_test size greater address b =
    nat_lt (address + b) 64 && nat_eq (around greater (address + b)) (around greater address)

parts_test : ℕ → ℕ → Bool
parts_test size more =
    node_facts_test (λ address. all_below (squares size) (λ b. part_test size (size + more) address
    b)) size

parts : all_below 4 (λ size. all_below 4 (λ more. parts_test size more)) ≡ true
unfolding parts_test part_test node_facts_test around
parts = refl

pub square_in_node : (size greater address b : ℕ) → IsNode size address → size ≤ greater →
    greater ≤ 3 → b < squares size →
    (address + b < 64) × (around greater (address + b) ≡ around greater address)
unfolding parts_test part_test
square_in_node size greater address b node least most below =
    let more : ℕ = greater - size in
    let sum : size + more ≡ greater = omega (arith, least) in
    let few = node.few in
    let of_size = holds_below 4 (λ n. all_below 4 (λ m. parts_test n m)) parts size (omega (
      arith,
      few,
    )) in
    let of_more = holds_below 4 (λ m. parts_test size m) of_size more (omega (arith, most)) in
    let all = node_fact (λ a. all_below (squares size) (λ n. part_test size (size + more) a n)) size
    of_more address node in
    let p = and_parts _ _ (holds_below (squares size) (λ n. part_test size (size + more) address n)
    all b below) in (
      ltb-true _ _ p.0,
      subst (λ g. around g (address + b) ≡
          around g address) sum (eqb-true _ _ p.1),
    )

-- the node around a node's own corner is the node
own_test : ℕ → Bool
own_test size = node_facts_test (λ address. nat_eq (around size address) address) size

owns : all_below 4 own_test ≡ true
unfolding own_test node_facts_test around
owns = refl

pub around_own : (size address : ℕ) → IsNode size address → around size address ≡ address
unfolding own_test
around_own size address node =
    let few = node.few in
    eqb-true _ _
    (node_fact (λ a. nat_eq (around size a) a) size (holds_below 4 own_test owns size (omega (
      arith,
      few,
    ))) address node)

-- the four nodes that a node is split into, and their corners
child_test : ℕ → ℕ → Bool
child_test size address =
    all_below 4 (λ k.
    nat_eq ((address + k * squares size) % squares size) 0 &&
    (nat_eq (column_of (address + k * squares size)) (column_of address + k % 2 * 2 ^ size) &&
    nat_eq (row_of (address + k * squares size)) (row_of address + k / 2 * 2 ^ size)))

children : all_below 3 (λ size. node_facts_test (λ address. child_test size address) (suc size)) ≡
    true
unfolding child_test node_facts_test column_of row_of
children = refl

pub record IsChild (size address k : ℕ) : Type 0 where
  pub node : IsNode size (address + k * squares size)
  pub column : column_of (address + k * squares size) ≡ column_of address + k % 2 * 2 ^ size
  pub row : row_of (address + k * squares size) ≡ row_of address + k / 2 * 2 ^ size

pub squares_above_0 : (size : ℕ) → 1 ≤ squares size
squares_above_0 zero = omega arith
squares_above_0 (suc size) = let h = squares_above_0 size in omega (arith, h)

pub below_4_times : (k n : ℕ) → 1 ≤ n → k < 4 → k * n < 4 * n
below_4_times zero n h below = omega (arith, h)
below_4_times (suc zero) n h below = omega (arith, h)
below_4_times (suc (suc zero)) n h below = omega (arith, h)
below_4_times (suc (suc (suc zero))) n h below = omega (arith, h)
below_4_times (suc (suc (suc (suc k)))) n h below = absurd (omega (arith, below))

pub child_of : (size address k : ℕ) → IsNode (suc size) address → k < 4 → IsChild size address k
unfolding child_test
child_of size address k node below =
    let few = node.few in
    let all = node_fact (λ a. child_test size a) (suc size)
    (holds_below 3 (λ n. node_facts_test (λ a. child_test n a) (suc n)) children size (omega (
      arith,
      few,
    ))) address node in
    let p = and_parts _ _ (holds_below 4 (λ n. nat_eq ((address + n * squares size) % squares size)
    0 &&
    (nat_eq (column_of (address + n * squares size)) (column_of address + n % 2 * 2 ^ size) &&
    nat_eq (row_of (address + n * squares size)) (row_of address + n / 2 * 2 ^ size))) all k below)
    in
    let q = and_parts _ _ p.1 in
    let in_parent : k * squares size < squares (suc size) =
    below_4_times k (squares size) (squares_above_0 size) below in
    record {
      node = record {
        few = omega (arith, few);
        inside = (square_in_node (suc size) (suc size) address (k * squares size) node (omega arith)
            few in_parent).0;
        even = eqb-true _ _ p.0;
      };
      column = eqb-true _ _ q.0;
      row = eqb-true _ _ q.1;
    }

-- the squares at a node's left and above it, in a window of blocks, and the nodes of its size there
left_test : ℕ → ℕ → Bool
left_test size address =
    let column = (7 + column_of address) % 8 in
    let there = around size (address_of column (row_of address)) in
    nat_eq (column_of there + 2 ^ size) (column + 1) && nat_eq (row_of there) (row_of address)

above_test : ℕ → ℕ → Bool
above_test size address =
    let row = (7 + row_of address) % 8 in
    let there = around size (address_of (column_of address) row) in
    nat_eq (row_of there + 2 ^ size) (row + 1) && nat_eq (column_of there) (column_of address)

neighbours : all_below 4 (λ size. node_facts_test (λ address. left_test size address && above_test
    size address) size) ≡ true
unfolding left_test above_test node_facts_test column_of row_of address_of around
neighbours = refl

pub record HasNeighbours (size address : ℕ) : Type 0 where
  pub left_column :
      column_of (around size (address_of ((7 + column_of address) % 8) (row_of address))) + 2 ^ size
      ≡
      (7 + column_of address) % 8 + 1
  pub left_row :
      row_of (around size (address_of ((7 + column_of address) % 8) (row_of address))) ≡
      row_of address
  pub above_row :
      row_of (around size (address_of (column_of address) ((7 + row_of address) % 8))) + 2 ^ size ≡
      (7 + row_of address) % 8 + 1
  pub above_column :
      column_of (around size (address_of (column_of address) ((7 + row_of address) % 8))) ≡
      column_of address

pub neighbours_of : (size address : ℕ) → IsNode size address → HasNeighbours size address
unfolding left_test above_test
neighbours_of size address node =
    let few = node.few in
    let all = node_fact (λ a. left_test size a && above_test size a) size
    (holds_below 4 (λ n. node_facts_test (λ a. left_test n a && above_test n a) n) neighbours size
    (omega (arith, few))) address node in
    let p = and_parts (left_test size address) (above_test size address) all in
    let q = and_parts _ _ p.0 in
    let r = and_parts _ _ p.1 in
    record {
      left_column = eqb-true _ _ q.0;
      left_row = eqb-true _ _ q.1;
      above_row = eqb-true _ _ r.0;
      above_column = eqb-true _ _ r.1;
    }

-- a leaf's squares are all coded alike
pub leaf_squares : (size : ℕ) (prediction : Prediction) (units : List TransformUnit) →
    squares_of size (Leaf prediction units) ≡
    replicate (squares size) (Coded (depth_of size) prediction)
leaf_squares zero prediction units = refl
leaf_squares (suc size) prediction units = refl

-- ---- the blocks of a picture

-- as the code counts the blocks over so many samples
pub blocks_counted : (samples : ℕ) → div_ceil samples 64 ≡ blocks_over samples
blocks_counted samples = omega arith

pub length-sites_from : (count width height index : ℕ) →
    length (sites_from count width height index) ≡ count
length-sites_from zero width height index = refl
length-sites_from (suc count) width height index =
    ap suc (length-sites_from count width height (index + 1))
