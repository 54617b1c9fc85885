-- What is seen of the blocks around (6.4.1) is what is seen of the units beside a block.
use Rattle.std.proofs.Common.{◌≡◌, ℕ, ◌+◌, ◌-◌, ◌*◌, ◌<◌, ◌≤◌, Bool, true, false, nat_lt, nat_eq, List, refl, ◌∙◌, arith, inl, inr}
use Rattle.std.specs.Prelude.{nat_le, ◌&&◌, ◌||◌, ◌⊎◌, slice_index_or}
use Rattle.std.proofs.lemmas.Bool.{cases_lt, ltb-true, leb-false, or_parts}
use Rattle.std.proofs.lemmas.Bool.Decides.{nat_tests}
use Rattle.hv_lemmas.proofs.ComparisonLemmas.{le_below, le_not_below, lt_below, lt_not_below, other_than_0}
use Rattle.hv_lemmas.proofs.ComputedLemmas.{all_below, holds_below}
use Rattle.hv_tree_model.specs.Sites.{Site, ctb_column, ctb_row, address_of, column_of, row_of, is_outside}
use Rattle.hv_tree_model.specs.EarlierUnits.{Square, Unavailable}
use Rattle.hv_tree_model.specs.Plans.{Plan, UnitsAround, on_right, on_bottom, is_in_picture, look_around, in_block}
use Rattle.hv_unit_model.proofs.GeometryLemmas.{place_of_address, address_of_place}
use Rattle.hv_syntax.specs.declared.block.Block.{Block}
use Rattle.hv_syntax.specs.Blocks.{plan_of, place_of, seen_left, seen_above, AreBeside, Sees}
use Rattle.hv_near.specs.Squares.{own_square, Shows}

-- ---- where a square is
pub record Inside (site : Site) (address : ℕ) : Type 0 where
  pub column : 64 * ctb_column site + 8 * column_of address < site.width
  pub row : 64 * ctb_row site + 8 * row_of address < site.height

inside_of : (site : Site) (address : ℕ) → is_outside site address ≡ false → Inside site address
unfolding is_outside
inside_of site address e =
    let parts = or_parts _ _ e in
    record { column = leb-false _ _ parts.0; row = leb-false _ _ parts.1 }

not_outside : (site : Site) (address : ℕ) → Inside site address → is_outside site address ≡ false
unfolding is_outside
not_outside site address h =
    rw (le_not_below site.width (64 * ctb_column site + 8 * column_of address) h.column)
    (le_not_below site.height (64 * ctb_row site + 8 * row_of address) h.row)

in_picture : (site : Site) (x y : ℕ) → 8 ≤ x → 8 ≤ y → 8 * (x - 8) < site.width →
    8 * (y - 8) < site.height → is_in_picture site x y ≡ true
in_picture site x y e f g h =
    rw (
      le_below 8 x e,
      le_below 8 y f,
      lt_below (8 * (x - 8)) site.width g,
      lt_below (8 * (y - 8)) site.height h,
    ) refl

left_of_picture : (site : Site) (x y : ℕ) → x < 8 → is_in_picture site x y ≡ false
left_of_picture site x y h = rw (le_not_below 8 x h) refl

second_fails : (b p q : Bool) → (b && false && p && q) ≡ false
second_fails true p q = refl
second_fails false p q = refl

above_picture : (site : Site) (x y : ℕ) → y < 8 → is_in_picture site x y ≡ false
above_picture site x y h =
    rw (le_not_below 8 y h)
    (second_fails (nat_le 8 x) (nat_lt (8 * (x - 8)) site.width) (nat_lt (8 * (y - 8)) site.height))

-- ---- inside the block, the square at the left and the one above come before
left_test : ℕ → Bool
left_test a = nat_eq (column_of a) 0 || nat_lt (address_of (column_of a - 1) (row_of a)) a

lefts : all_below 64 left_test ≡ true
unfolding left_test address_of column_of row_of
lefts = refl

above_test : ℕ → Bool
above_test a = nat_eq (row_of a) 0 || nat_lt (address_of (column_of a) (row_of a - 1)) a

aboves : all_below 64 above_test ≡ true
unfolding above_test address_of column_of row_of
aboves = refl

left_before : (a : ℕ) → a < 64 → 0 < column_of a → address_of (column_of a - 1) (row_of a) < a
unfolding left_test
left_before a h k =
    let t = holds_below 64 left_test lefts a h in
    ltb-true _ _ (rw (other_than_0 (column_of a) k) at t)

above_before : (a : ℕ) → a < 64 → 0 < row_of a → address_of (column_of a) (row_of a - 1) < a
unfolding above_test
above_before a h k =
    let t = holds_below 64 above_test aboves a h in
    ltb-true _ _ (rw (other_than_0 (row_of a) k) at t)

-- a square of the block, which comes before
own_seen : (site : Site) (plan : Plan) (address : ℕ) (earlier : List Square) (c r : ℕ) →
    Shows site plan address earlier → c < 8 → r < 8 → address_of c r < address →
    64 * ctb_column site + 8 * c < site.width → 64 * ctb_row site + 8 * r < site.height →
    slice_index_or earlier (address_of c r) Unavailable ≡ own_square plan (address_of c r)
own_seen site plan address earlier c r shows few_c few_r before h k =
    let place = address_of_place c r few_c few_r in
    shows.square (address_of c r) before
    (not_outside site (address_of c r)
    (record {
      column = rw place.0 h;
      row = rw place.1 k;
    }))

-- ---- at the left
look_left_inside : (site : Site) (around : UnitsAround) (earlier : List Square) (c r : ℕ) →
    0 < c → c < 8 → r < 8 → 64 * ctb_column site + 8 * c < site.width →
    64 * ctb_row site + 8 * r < site.height →
    look_around site around earlier (7 + c) (8 + r) ≡
    slice_index_or earlier (address_of (c - 1) r) Unavailable
unfolding look_around
look_left_inside site around earlier c r some few_c few_r h k =
    let x : 7 + c - 8 ≡ c - 1 = omega (arith, some) in
    let y : 8 + r - 8 ≡ r = omega arith in
    rw (
      in_picture site (8 * ctb_column site + (7 + c)) (8 * ctb_row site + (8 + r))
          (omega (arith, some)) (omega arith) (omega (arith, h, some)) (omega (arith, k)),
      lt_not_below (7 + c) 8 (omega (arith, some)),
      lt_not_below (8 + r) 8 (omega arith),
      lt_below (7 + c) 16 (omega (arith, few_c)),
      lt_below (8 + r) 16 (omega (arith, few_r)),
      x,
      y,
    )
    refl

look_left_beside : (site : Site) (around : UnitsAround) (earlier : List Square) (c r : ℕ) →
    c ≡ 0 → 0 < ctb_column site → 64 * ctb_column site + 8 * c < site.width →
    64 * ctb_row site + 8 * r < site.height →
    look_around site around earlier (7 + c) (8 + r) ≡ on_right around.left r
unfolding look_around
look_left_beside site around earlier c r none some h k =
    let x : 7 + c ≡ 7 = omega (arith, none) in
    let y : 8 + r - 8 ≡ r = omega arith in
    let wide : 64 * ctb_column site < site.width = omega (arith, h, none) in
    rw x
    (rw (
      in_picture site (8 * ctb_column site + 7) (8 * ctb_row site + (8 + r))
          (omega (arith, some)) (omega arith) (omega (arith, wide, some)) (omega (arith, k)),
      lt_not_below (8 + r) 8 (omega arith),
      y,
    ) refl)

look_left_outside : (site : Site) (around : UnitsAround) (earlier : List Square) (c r : ℕ) →
    c ≡ 0 → ctb_column site ≤ 0 →
    look_around site around earlier (7 + c) (8 + r) ≡ Unavailable
unfolding look_around
look_left_outside site around earlier c r none first =
    rw (left_of_picture site (8 * ctb_column site + (7 + c)) (8 * ctb_row site + (8 + r))
    (omega (arith, none, first))) refl

-- ---- above
look_above_inside : (site : Site) (around : UnitsAround) (earlier : List Square) (c r : ℕ) →
    0 < r → c < 8 → r < 8 → 64 * ctb_column site + 8 * c < site.width →
    64 * ctb_row site + 8 * r < site.height →
    look_around site around earlier (8 + c) (7 + r) ≡
    slice_index_or earlier (address_of c (r - 1)) Unavailable
unfolding look_around
look_above_inside site around earlier c r some few_c few_r h k =
    let x : 8 + c - 8 ≡ c = omega arith in
    let y : 7 + r - 8 ≡ r - 1 = omega (arith, some) in
    rw (
      in_picture site (8 * ctb_column site + (8 + c)) (8 * ctb_row site + (7 + r))
          (omega arith) (omega (arith, some)) (omega (arith, h)) (omega (arith, k, some)),
      lt_not_below (8 + c) 8 (omega arith),
      lt_not_below (7 + r) 8 (omega (arith, some)),
      lt_below (8 + c) 16 (omega (arith, few_c)),
      lt_below (7 + r) 16 (omega (arith, few_r)),
      x,
      y,
    )
    refl

look_above_beside : (site : Site) (around : UnitsAround) (earlier : List Square) (c r : ℕ) →
    r ≡ 0 → c < 8 → 0 < ctb_row site → 64 * ctb_column site + 8 * c < site.width →
    64 * ctb_row site + 8 * r < site.height →
    look_around site around earlier (8 + c) (7 + r) ≡ on_bottom around.above c
unfolding look_around
look_above_beside site around earlier c r none few some h k =
    let x : 8 + c - 8 ≡ c = omega arith in
    let y : 7 + r ≡ 7 = omega (arith, none) in
    let high : 64 * ctb_row site < site.height = omega (arith, k, none) in
    rw y
    (rw (
      in_picture site (8 * ctb_column site + (8 + c)) (8 * ctb_row site + 7)
          (omega arith) (omega (arith, some)) (omega (arith, h)) (omega (arith, high, some)),
      lt_not_below (8 + c) 8 (omega arith),
      lt_below (8 + c) 16 (omega (arith, few)),
      x,
    ) refl)

look_above_outside : (site : Site) (around : UnitsAround) (earlier : List Square) (c r : ℕ) →
    r ≡ 0 → ctb_row site ≤ 0 →
    look_around site around earlier (8 + c) (7 + r) ≡ Unavailable
unfolding look_around
look_above_outside site around earlier c r none first =
    rw (above_picture site (8 * ctb_column site + (8 + c)) (8 * ctb_row site + (7 + r))
    (omega (arith, none, first))) refl

-- ---- what is seen from a block
zero_is : (a : ℕ) → a ≤ 0 → nat_eq a 0 ≡ true
zero_is a h = grind (arith, nat_tests)

left_in : (b : Block) (around : UnitsAround) (address : ℕ) (earlier : List Square) →
    AreBeside b.beside around → address < 64 → Shows (place_of b) (plan_of b) address earlier →
    Inside (place_of b) address → (0 < column_of address) ⊎ (column_of address ≤ 0) →
    (0 < b.site.column) ⊎ (b.site.column ≤ 0) →
    look_around (place_of b) around earlier (7 + column_of address) (8 + row_of address) ≡
    seen_left b address
unfolding seen_left
left_in b around address earlier beside few shows inside (inl some) any =
    let place = place_of_address address few in
    let before = left_before address few some in
    rw (other_than_0 (column_of address) some)
    (look_left_inside (place_of b) around earlier (column_of address) (row_of address) some place.1
    place.2 inside.column inside.row ∙
    own_seen (place_of b) (plan_of b) address earlier (column_of address - 1) (row_of address) shows
    (omega (arith, place.1)) place.2 before (omega (arith, inside.column)) inside.row)
left_in b around address earlier beside few shows inside (inr none) (inl some) =
    let place = place_of_address address few in
    let is : column_of address ≡ 0 = omega (arith, none) in
    let there : 0 < ctb_column (place_of b) = omega (arith, some, b.site.column_is) in
    rw (zero_is (column_of address) none, lt_below 0 b.site.column some)
    (look_left_beside (place_of b) around earlier (column_of address) (row_of address) is there
    inside.column inside.row ∙ beside.left (row_of address) place.2)
left_in b around address earlier beside few shows inside (inr none) (inr first) =
    let is : column_of address ≡ 0 = omega (arith, none) in
    let no : ctb_column (place_of b) ≤ 0 = omega (arith, first, b.site.column_is) in
    rw (zero_is (column_of address) none, lt_not_below 0 b.site.column first)
    (look_left_outside (place_of b) around earlier (column_of address) (row_of address) is no)

above_in : (b : Block) (around : UnitsAround) (address : ℕ) (earlier : List Square) →
    AreBeside b.beside around → address < 64 → Shows (place_of b) (plan_of b) address earlier →
    Inside (place_of b) address → (0 < row_of address) ⊎ (row_of address ≤ 0) →
    (0 < b.site.row) ⊎ (b.site.row ≤ 0) →
    look_around (place_of b) around earlier (8 + column_of address) (7 + row_of address) ≡
    seen_above b address
unfolding seen_above
above_in b around address earlier beside few shows inside (inl some) any =
    let place = place_of_address address few in
    let before = above_before address few some in
    rw (other_than_0 (row_of address) some)
    (look_above_inside (place_of b) around earlier (column_of address) (row_of address) some place.1
    place.2 inside.column inside.row ∙
    own_seen (place_of b) (plan_of b) address earlier (column_of address) (row_of address - 1) shows
    place.1 (omega (arith, place.2)) before inside.column (omega (arith, inside.row)))
above_in b around address earlier beside few shows inside (inr none) (inl some) =
    let place = place_of_address address few in
    let is : row_of address ≡ 0 = omega (arith, none) in
    let there : 0 < ctb_row (place_of b) = omega (arith, some, b.site.row_is) in
    rw (zero_is (row_of address) none, lt_below 0 b.site.row some)
    (look_above_beside (place_of b) around earlier (column_of address) (row_of address) is place.1
    there inside.column inside.row ∙ beside.above (column_of address) place.1)
above_in b around address earlier beside few shows inside (inr none) (inr first) =
    let is : row_of address ≡ 0 = omega (arith, none) in
    let no : ctb_row (place_of b) ≤ 0 = omega (arith, first, b.site.row_is) in
    rw (zero_is (row_of address) none, lt_not_below 0 b.site.row first)
    (look_above_outside (place_of b) around earlier (column_of address) (row_of address) is no)

pub in_block_sees : (b : Block) (around : UnitsAround) → AreBeside b.beside around →
    Sees b (in_block b.kind b.references (place_of b) around)
in_block_sees b around beside = record {
  slice_type = refl;
  references = refl;
  site = refl;
  left = λ address earlier few shows e.
      left_in b around address earlier beside few shows (inside_of (place_of b) address e)
      (cases_lt 0 (column_of address)) (cases_lt 0 b.site.column);
  above = λ address earlier few shows e.
      above_in b around address earlier beside few shows (inside_of (place_of b) address e)
      (cases_lt 0 (row_of address)) (cases_lt 0 b.site.row);
}
