-- Addresses of the squares of a block in z-scan order, and their columns and rows (6.5.2): computed
-- over all of them.
use Rattle.std.proofs.Common.{◌≡◌, ℕ, ◌+◌, ◌%◌, ◌^◌, Bool, true, refl, arith}
use Rattle.std.specs.Prelude.{nat_eq, nat_lt, not, ◌&&◌, ◌||◌}
use Rattle.std.proofs.lemmas.Bool.{and_parts, ltb-true, eqb-true, eq-eqb}
use Rattle.hv_lemmas.proofs.ComputedLemmas.{all_below, holds_below}
use Rattle.hv_lemmas.proofs.BooleanLemmas.{or_right}
use Rattle.hv_tree_model.specs.Sites.{address_of, column_of, row_of, squares}
use Rattle.hv_unit_model.specs.UnitLaws.{AddressesArePlaces, PlacesHaveAddresses, NodesAreSquares}

-- ---- one to one

place_test : ℕ → Bool
place_test address =
    nat_eq (address_of (column_of address) (row_of address)) address &&
    (nat_lt (column_of address) 8 && nat_lt (row_of address) 8)

places : all_below 64 place_test ≡ true
unfolding place_test address_of column_of row_of
places = refl

pub place_of_address : AddressesArePlaces
unfolding place_test
place_of_address address h =
    let p = and_parts _ _ (holds_below 64 place_test places address h) in
    let q = and_parts _ _ p.1 in
    (eqb-true _ _ p.0, ltb-true _ _ q.0, ltb-true _ _ q.1)

address_test : ℕ → ℕ → Bool
address_test column row =
    nat_eq (column_of (address_of column row)) column &&
    (nat_eq (row_of (address_of column row)) row && nat_lt (address_of column row) 64)

addresses : all_below 8 (λ column. all_below 8 (λ row. address_test column row)) ≡ true
unfolding address_test address_of column_of row_of
addresses = refl

pub address_of_place : PlacesHaveAddresses
unfolding address_test
address_of_place column row h k =
    let all = holds_below 8 (λ c. all_below 8 (λ r. address_test c r)) addresses column h in
    let p = and_parts _ _ (holds_below 8 (λ r. address_test column r) all row k) in
    let q = and_parts _ _ p.1 in
    (eqb-true _ _ p.0, eqb-true _ _ q.0, ltb-true _ _ q.1)

-- ---- nodes

node_test : ℕ → ℕ → ℕ → Bool
node_test size address b =
    nat_eq (column_of (address + b)) (column_of address + column_of b) &&
    (nat_eq (row_of (address + b)) (row_of address + row_of b) &&
    (nat_lt (column_of b) (2 ^ size) && nat_lt (row_of b) (2 ^ size)))

-- at the multiples of the number of squares
nodes_test : ℕ → ℕ → Bool
nodes_test size address =
    not (nat_eq (address % squares size) 0) || all_below (squares size)
    (λ b. node_test size address b)

nodes : all_below 4 (λ size. all_below 64 (λ address. nodes_test size address)) ≡ true
unfolding node_test nodes_test column_of row_of
nodes = refl

pub square_of_node : NodesAreSquares
unfolding node_test nodes_test
square_of_node size address b few inside even below =
    let sizes = holds_below 4 (λ n. all_below 64 (λ a. nodes_test n a)) nodes size (omega (
      arith,
      few,
    )) in
    let here = holds_below 64 (λ a. nodes_test size a) sizes address inside in
    let is_even = eq-eqb (address % squares size) 0 even in
    let all = or_right (not (nat_eq (address % squares size) 0)) _ here (rw is_even refl) in
    let p = and_parts _ _ (holds_below (squares size) (λ n. node_test size address n) all b below)
    in
    let q = and_parts _ _ p.1 in
    let r = and_parts _ _ q.1 in
    (eqb-true _ _ p.0, eqb-true _ _ q.0, ltb-true _ _ r.0, ltb-true _ _ r.1)
