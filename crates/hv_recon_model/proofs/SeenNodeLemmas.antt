-- Transform blocks of a coding tree block by their nodes: which samples come before them (6.5.2),
-- and what an intra block is decoded to.
use Rattle.std.proofs.Common.{◌≡◌, ℕ, zero, suc, ◌+◌, ◌*◌, ◌/◌, ◌%◌, ◌^◌, ◌<◌, ◌≤◌, Bool, true, false, List, refl, sym, ap, ◌∙◌, arith}
use Rattle.std.specs.Prelude.{nat_eq, nat_le, nat_lt, not, ◌&&◌, ◌||◌, Some, ℤ}
use Rattle.std.proofs.lemmas.Bool.{and_parts, eq-eqb, leb-true}
use Rattle.std.proofs.lemmas.Bool.Decides.{nat_tests}
use Rattle.std.proofs.Math.Nat.{pow-suc}
use Rattle.hv_lemmas.proofs.BooleanLemmas.{or_right}
use Rattle.hv_lemmas.proofs.ComputedLemmas.{all_below, holds_below}
use Rattle.hv_types.specs.Samples.{Plane}
use Rattle.hv_tree_model.specs.Trees.{Intra}
use Rattle.hv_tree_model.specs.Sites.{address_of, column_of, row_of, squares}
use Rattle.hv_tree_model.proofs.NodeLemmas.{IsNode}
use Rattle.hv_recon_model.specs.Reconstruction.{Component, square_at, is_in, with_block, decoded_block}
use Rattle.hv_recon_model.specs.SeenSamples.{Spot, SamplesAround, IsSeen, seen_line, seen_block}
use Rattle.hv_recon_model.proofs.SeenLemmas.{FitsIn, ComesBetween, neighbours_seen}

-- ---- what an intra block is decoded to

pub intra_block : (s : Spot) (around : SamplesAround) (own : List ℕ)
    (address x y log2 mode : ℕ) (is_luma : Bool) (qp : ℕ) (planes : List Plane) (levels : List ℤ)
    (samples : Component) → FitsIn s.side x y log2 → IsSeen s around own address samples →
    decoded_block (Intra mode) is_luma qp planes (square_at (s.left + x) (s.top + y) log2) levels
    samples ≡
    Some (with_block samples (square_at (s.left + x) (s.top + y) log2)
    (seen_block log2 mode is_luma qp levels (seen_line s around own address x y log2)))
unfolding decoded_block
intra_block s around own address x y log2 mode is_luma qp planes levels samples fits seen =
    ap (λ line. Some (with_block samples (square_at (s.left + x) (s.top + y) log2)
    (seen_block log2 mode is_luma qp levels line)))
    (neighbours_seen s around own address samples x y log2 fits seen)

-- ---- the squares of a node

-- whether the square in this column and row is one of the node's
abbrev is_in_node : ℕ → ℕ → ℕ → ℕ → Bool
is_in_node size address column row =
    nat_le (column_of address) column && nat_lt column (column_of address + 2 ^ size) &&
    nat_le (row_of address) row && nat_lt row (row_of address + 2 ^ size)

-- each follows from the other
abbrev go_together : Bool → Bool → Bool
go_together a b = (not a || b) && (not b || a)

between_test : ℕ → ℕ → ℕ → ℕ → Bool
between_test size address column row =
    go_together (nat_lt (address_of column row) (address + squares size))
    (is_in_node size address column row || nat_lt (address_of column row) address) &&
    not (nat_lt (address_of column row) address && is_in_node size address column row)

node_test : ℕ → ℕ → Bool
node_test size address =
    not (nat_eq (address % squares size) 0) ||
    all_below 8 (λ column. all_below 8 (λ row. between_test size address column row))

nodes_of_size : ℕ → Bool
nodes_of_size size = all_below 64 (λ address. node_test size address)

nodes_of_0 : nodes_of_size 0 ≡ true
unfolding nodes_of_size node_test between_test address_of column_of row_of
nodes_of_0 = refl

nodes_of_1 : nodes_of_size 1 ≡ true
unfolding nodes_of_size node_test between_test address_of column_of row_of
nodes_of_1 = refl

nodes_of_2 : nodes_of_size 2 ≡ true
unfolding nodes_of_size node_test between_test address_of column_of row_of
nodes_of_2 = refl

go_together_is : (a b : Bool) → go_together a b ≡ true → a ≡ b
go_together_is true true h = refl
go_together_is true false h = absurd cc
go_together_is false true h = absurd cc
go_together_is false false h = refl

test_of : (size : ℕ) → size ≤ 2 → nodes_of_size size ≡ true
test_of zero few = nodes_of_0
test_of (suc zero) few = nodes_of_1
test_of (suc (suc zero)) few = nodes_of_2
test_of (suc (suc (suc size))) few = absurd (omega (arith, few))

is_between : (size address column row : ℕ) → size ≤ 2 → IsNode size address → column < 8 →
    row < 8 → between_test size address column row ≡ true
unfolding nodes_of_size node_test
is_between size address column row few node across down =
    let here = holds_below 64 (node_test size) (test_of size few) address node.inside in
    let even = eq-eqb (address % squares size) 0 node.even in
    let all = or_right (not (nat_eq (address % squares size) 0)) _ here (rw even refl) in
    let in_column = holds_below 8 (λ c. all_below 8 (λ r. between_test size address c r)) all column
    across in
    holds_below 8 (λ r. between_test size address column r) in_column row down

between_squares : (size address column row : ℕ) → size ≤ 2 → IsNode size address → column < 8 →
    row < 8 →
    nat_lt (address_of column row) (address + squares size) ≡
    is_in_node size address column row || nat_lt (address_of column row) address
unfolding between_test
between_squares size address column row few node across down =
    go_together_is _ _ (and_parts _ _ (is_between size address column row few node across down)).0

not_both : (a b : Bool) → not (a && b) ≡ true → a ≡ true → b ≡ false
not_both true true h e = absurd cc
not_both true false h e = refl
not_both false b h e = absurd cc

apart_squares : (size address column row : ℕ) → size ≤ 2 → IsNode size address → column < 8 →
    row < 8 → nat_lt (address_of column row) address ≡ true →
    is_in_node size address column row ≡ false
unfolding between_test
apart_squares size address column row few node across down before =
    not_both _ _ (and_parts _ _ (is_between size address column row few node across down)).1 before

-- where a node ends

end_test : ℕ → ℕ → Bool
end_test size address =
    not (nat_eq (address % squares size) 0) ||
    nat_le (column_of address + 2 ^ size) 8 &&
    (nat_le (row_of address + 2 ^ size) 8 && nat_le (address + squares size) 64)

ends : all_below 3 (λ size. all_below 64 (λ address. end_test size address)) ≡ true
unfolding end_test column_of row_of
ends = refl

pub node_ends : (size address : ℕ) → size ≤ 2 → IsNode size address →
    (column_of address + 2 ^ size ≤ 8) × (row_of address + 2 ^ size ≤ 8) ×
    (address + squares size ≤ 64)
unfolding end_test
node_ends size address few node =
    let of_size = holds_below 3 (λ n. all_below 64 (λ a. end_test n a)) ends size
    (omega (arith, few)) in
    let here = holds_below 64 (λ a. end_test size a) of_size address node.inside in
    let even = eq-eqb (address % squares size) 0 node.even in
    let all = or_right (not (nat_eq (address % squares size) 0)) _ here (rw even refl) in
    let p = and_parts _ _ all in
    let q = and_parts _ _ p.1 in
    (leb-true _ _ p.0, leb-true _ _ q.0, leb-true _ _ q.1)

-- a sample lies in the node's square just where its own square of 8x8 luma samples does

pub power_luma : (size : ℕ) → 2 ^ (size + 3) ≡ 8 * 2 ^ size
power_luma size =
    let more : size + 3 ≡ suc (suc (suc size)) = omega arith in
    ap (λ n. 2 ^ n) more ∙
    omega (arith, pow-suc 2 size, pow-suc 2 (suc size), pow-suc 2 (suc (suc size)))

pub power_chroma : (size : ℕ) → 2 ^ (size + 2) ≡ 4 * 2 ^ size
power_chroma size =
    let more : size + 2 ≡ suc (suc size) = omega arith in
    ap (λ n. 2 ^ n) more ∙ omega (arith, pow-suc 2 size, pow-suc 2 (suc size))

in_luma : (c r size p q : ℕ) →
    nat_le c (p / 8) && nat_lt (p / 8) (c + 2 ^ size) && nat_le r (q / 8) &&
    nat_lt (q / 8) (r + 2 ^ size) ≡
    is_in (square_at (8 * c) (8 * r) (size + 3)) p q
in_luma c r size p q =
    λ j. at_first j && at_last j && at_top j && at_bottom j where
      power : 2 ^ (size + 3) ≡ 8 * 2 ^ size
      power = power_luma size

      at_first : nat_le c (p / 8) ≡ nat_le (8 * c) p
      at_first = grind (arith, nat_tests)

      at_last : nat_lt (p / 8) (c + 2 ^ size) ≡ nat_lt p (8 * c + 2 ^ (size + 3))
      at_last = grind (arith, nat_tests, power)

      at_top : nat_le r (q / 8) ≡ nat_le (8 * r) q
      at_top = grind (arith, nat_tests)

      at_bottom : nat_lt (q / 8) (r + 2 ^ size) ≡ nat_lt q (8 * r + 2 ^ (size + 3))
      at_bottom = grind (arith, nat_tests, power)

in_chroma : (c r size p q : ℕ) →
    nat_le c (p / 4) && nat_lt (p / 4) (c + 2 ^ size) && nat_le r (q / 4) &&
    nat_lt (q / 4) (r + 2 ^ size) ≡
    is_in (square_at (4 * c) (4 * r) (size + 2)) p q
in_chroma c r size p q =
    λ j. at_first j && at_last j && at_top j && at_bottom j where
      power : 2 ^ (size + 2) ≡ 4 * 2 ^ size
      power = power_chroma size

      at_first : nat_le c (p / 4) ≡ nat_le (4 * c) p
      at_first = grind (arith, nat_tests)

      at_last : nat_lt (p / 4) (c + 2 ^ size) ≡ nat_lt p (4 * c + 2 ^ (size + 2))
      at_last = grind (arith, nat_tests, power)

      at_top : nat_le r (q / 4) ≡ nat_le (4 * r) q
      at_top = grind (arith, nat_tests)

      at_bottom : nat_lt (q / 4) (r + 2 ^ size) ≡ nat_lt q (4 * r + 2 ^ (size + 2))
      at_bottom = grind (arith, nat_tests, power)

pub luma_between : (size address : ℕ) → size ≤ 2 → IsNode size address →
    ComesBetween 64 (8 * column_of address) (8 * row_of address) (size + 3) address
    (address + squares size)
luma_between size address few node = record {
  apart = λ p q across down before.
      sym (in_luma (column_of address) (row_of address) size p q) ∙
      apart_squares size address (p / 8) (q / 8) few node (omega (arith, across))
      (omega (arith, down)) before;
  sample = λ p q across down.
      between_squares size address (p / 8) (q / 8) few node (omega (arith, across))
      (omega (arith, down)) ∙
      ap (λ t. t || nat_lt (address_of (p / 8) (q / 8)) address)
      (in_luma (column_of address) (row_of address) size p q);
}

pub chroma_between : (size address : ℕ) → size ≤ 2 → IsNode size address →
    ComesBetween 32 (4 * column_of address) (4 * row_of address) (size + 2) address
    (address + squares size)
chroma_between size address few node = record {
  apart = λ p q across down before.
      sym (in_chroma (column_of address) (row_of address) size p q) ∙
      apart_squares size address (p / 4) (q / 4) few node (omega (arith, across))
      (omega (arith, down)) before;
  sample = λ p q across down.
      between_squares size address (p / 4) (q / 4) few node (omega (arith, across))
      (omega (arith, down)) ∙
      ap (λ t. t || nat_lt (address_of (p / 4) (q / 4)) address)
      (in_chroma (column_of address) (row_of address) size p q);
}
