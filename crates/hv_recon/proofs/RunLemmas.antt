-- What is seen along a row and down a column from a square on.
use Rattle.std.proofs.Common.{◌≡◌, ℕ, ◌+◌, ◌-◌, ◌*◌, ◌/◌, ◌<◌, ◌≤◌, Bool, true, false, cond, List, refl, ap, ◌∙◌, arith, ◌⊎◌}
use Rattle.std.specs.Prelude.{nat_lt, ◌&&◌, slice_get, Option, None}
use Rattle.std.proofs.lemmas.Bool.Decides.{nat_tests}
use Rattle.std.proofs.lemmas.Nat.{div-mul-add}
use Rattle.std.proofs.Math.Nat.{mul-le-mul_right, add-mul}
use Rattle.hv_tree_model.specs.Sites.{address_of}
use Rattle.hv_recon_model.specs.SeenSamples.{Spot, SamplesAround, on_right, on_bottom, comes_before, sample_around, is_in_picture, look_around}
use Rattle.hv_recon.specs.declared.run.Run.{Run}
use Rattle.hv_recon.specs.Runs.{seen_in}

pub none_seen : (r : Run) (i : ℕ) → r.count ≡ 0 → seen_in r i ≡ None
none_seen r i empty =
    let test : nat_lt i r.count ≡ false = grind (arith, nat_tests, empty) in
    ap (λ t. cond t (slice_get r.samples.now (r.first + i * r.step)) None) test

-- ---- squares

-- where a square ends
pub square_ends : (column square i : ℕ) → column < 8 → i < square →
    column * square + i < 8 * square
square_ends column square i below small =
    let ends : (column + 1) * square ≤ 8 * square = mul-le-mul_right square (omega (arith, below)) in
    omega (arith, ends, add-mul column 1 square, small)

pub square_begins : (column square : ℕ) → 8 ≤ column → 8 * square ≤ column * square
square_begins column square above = mul-le-mul_right square (omega (arith, above))

-- the squares behind the eighth, counted from it
pub behind_eighth : (column square : ℕ) → 8 ≤ column →
    column * square ≡ 8 * square + (column - 8) * square
behind_eighth column square above =
    let whole : column ≡ 8 + (column - 8) = omega (arith, above) in
    ap (λ n. n * square) whole ∙ add-mul 8 (column - 8) square

side_in_squares : (side square : ℕ) → side ≡ 8 * square → side / 8 ≡ square
side_in_squares side square squares = omega (arith, squares)

-- all samples of a square are decoded or none is
pub decided_along : (side square address column i y : ℕ) → side ≡ 8 * square → i < square →
    comes_before side address (column * square + i) y ≡
    nat_lt (address_of column (y / square)) address
decided_along side square address column i y squares below =
    let same = side_in_squares side square squares in
    ap (λ d. nat_lt (address_of ((column * square + i) / d) (y / d)) address) same ∙
    ap (λ c. nat_lt (address_of c (y / square)) address) (div-mul-add column square i below)

pub decided_down : (side square address x row i : ℕ) → side ≡ 8 * square → i < square →
    comes_before side address x (row * square + i) ≡
    nat_lt (address_of (x / square) row) address
decided_down side square address x row i squares below =
    let same = side_in_squares side square squares in
    ap (λ d. nat_lt (address_of (x / d) ((row * square + i) / d)) address) same ∙
    ap (λ r. nat_lt (address_of (x / square) r) address) (div-mul-add row square i below)

-- ---- in the picture

both_none : {A : Type 0} (test : Bool) → cond {A = Option A} test None None ≡ None
both_none true = refl
both_none false = refl

module _ (s : Spot) (around : SamplesAround) (own : List ℕ) (address x y : ℕ) where
  outside : is_in_picture s x y ≡ false → look_around s around own address x y ≡ None
  unfolding look_around
  outside test = ap (λ t. cond t (sample_around s.side around own address x y) None) test

  pub row_outside : (s.top + y < s.side) ⊎ (s.height ≤ s.top + y - s.side) →
      look_around s around own address x y ≡ None
  row_outside out = outside (grind (arith, nat_tests, out))

  pub column_outside : (s.left + x < s.side) ⊎ (s.width ≤ s.left + x - s.side) →
      look_around s around own address x y ≡ None
  column_outside out = outside (grind (arith, nat_tests, out))

  inside : (test : Bool) → is_in_picture s x y ≡ test →
      look_around s around own address x y ≡
      cond test (sample_around s.side around own address x y) None
  unfolding look_around
  inside test same = ap (λ t. cond t (sample_around s.side around own address x y) None) same

  pub unseen : sample_around s.side around own address x y ≡ None →
      look_around s around own address x y ≡ None
  unfolding look_around
  unseen none =
      ap (λ v. cond (is_in_picture s x y) v None) none ∙ both_none (is_in_picture s x y)

  pub row_inside : (at i count : ℕ) (value : Option ℕ) → x ≡ s.side + (at + i) →
      count ≡ s.width - (s.left + at) → s.side ≤ s.top + y → s.top + y - s.side < s.height →
      sample_around s.side around own address x y ≡ value →
      look_around s around own address x y ≡ cond (nat_lt i count) value None
  row_inside at i count value place many top height known =
      inside (nat_lt i count) (grind (arith, nat_tests, place, many, top, height)) ∙
      ap (λ v. cond (nat_lt i count) v None) known

  pub column_inside : (at i count : ℕ) (value : Option ℕ) → y ≡ s.side + (at + i) →
      count ≡ s.height - (s.top + at) → s.side ≤ s.left + x → s.left + x - s.side < s.width →
      sample_around s.side around own address x y ≡ value →
      look_around s around own address x y ≡ cond (nat_lt i count) value None
  column_inside at i count value place many left width known =
      inside (nat_lt i count) (grind (arith, nat_tests, place, many, left, width)) ∙
      ap (λ v. cond (nat_lt i count) v None) known

-- ---- in the blocks

and_false : {A : Type 0} (a b : Bool) (value : Option A) →
    cond (a && b && false) value None ≡ None
and_false true true value = refl
and_false true false value = refl
and_false false true value = refl
and_false false false value = refl

module _ (side : ℕ) (around : SamplesAround) (own : List ℕ) (address : ℕ) where
  abbrev Around : ℕ → ℕ → Option ℕ
  Around x y = sample_around side around own address x y

  pub from_above : (at y : ℕ) → at < side → y < side →
      sample_around side around own address (side + at) y ≡ on_bottom around.above at
  from_above at y across down =
      let left : nat_lt (side + at) side ≡ false = grind (arith, nat_tests) in
      let up : nat_lt y side ≡ true = grind (arith, nat_tests, down) in
      let here : nat_lt (side + at) (2 * side) ≡ true = grind (arith, nat_tests, across) in
      let place : side + at - side ≡ at = omega arith in
      rw (left, up, here, place) refl

  pub from_above_right : (at y : ℕ) → side ≤ at → y < side →
      sample_around side around own address (side + at) y ≡ on_bottom around.above_right (at - side)
  from_above_right at y across down =
      let left : nat_lt (side + at) side ≡ false = grind (arith, nat_tests) in
      let up : nat_lt y side ≡ true = grind (arith, nat_tests, down) in
      let here : nat_lt (side + at) (2 * side) ≡ false = grind (arith, nat_tests, across) in
      let place : side + at - 2 * side ≡ at - side = omega arith in
      rw (left, up, here, place) refl

  pub from_left : (x at : ℕ) → x < side →
      sample_around side around own address x (side + at) ≡ on_right around.left at
  from_left x at across =
      let left : nat_lt x side ≡ true = grind (arith, nat_tests, across) in
      let down : nat_lt (side + at) side ≡ false = grind (arith, nat_tests) in
      let place : side + at - side ≡ at = omega arith in
      rw (left, down, place) refl

  pub from_own : (p q : ℕ) → p < side → q < side → comes_before side address p q ≡ true →
      sample_around side around own address (side + p) (side + q) ≡ slice_get own (q * side + p)
  from_own p q across down before =
      let left : nat_lt (side + p) side ≡ false = grind (arith, nat_tests) in
      let up : nat_lt (side + q) side ≡ false = grind (arith, nat_tests) in
      let column : side + p - side ≡ p = omega arith in
      let row : side + q - side ≡ q = omega arith in
      let in_columns : nat_lt p side ≡ true = grind (arith, nat_tests, across) in
      let in_rows : nat_lt q side ≡ true = grind (arith, nat_tests, down) in
      rw (left, up, column, row, in_columns, in_rows, before) refl

  pub behind_own : (p q : ℕ) → (side ≤ p) ⊎ (side ≤ q) →
      sample_around side around own address (side + p) (side + q) ≡ None
  behind_own p q out =
      let left : nat_lt (side + p) side ≡ false = grind (arith, nat_tests) in
      let up : nat_lt (side + q) side ≡ false = grind (arith, nat_tests) in
      let column : side + p - side ≡ p = omega arith in
      let row : side + q - side ≡ q = omega arith in
      let test : nat_lt p side && nat_lt q side && comes_before side address p q ≡ false =
      grind (arith, nat_tests, out) in
      rw (left, up, column, row, test) refl

  pub not_before : (p q : ℕ) → comes_before side address p q ≡ false →
      sample_around side around own address (side + p) (side + q) ≡ None
  not_before p q later =
      let left : nat_lt (side + p) side ≡ false = grind (arith, nat_tests) in
      let up : nat_lt (side + q) side ≡ false = grind (arith, nat_tests) in
      let column : side + p - side ≡ p = omega arith in
      let row : side + q - side ≡ q = omega arith in
      rw (left, up, column, row, later) (and_false (nat_lt p side) (nat_lt q side) (slice_get own (q * side + p)))
