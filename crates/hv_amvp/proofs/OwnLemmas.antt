-- What is seen from a node (6.4.1) behind any squares that are those of its block's units is what
-- is seen behind those that the units give.
use Rattle.std.proofs.Common.{◌≡◌, ℕ, ◌+◌, ◌-◌, ◌*◌, ◌^◌, ◌<◌, ◌≤◌, true, false, List, length, map, refl, sym, ap, ◌∙◌, arith, inl, inr}
use Rattle.std.specs.Prelude.{nat_lt, nat_le, ◌&&◌, slice_index_or, slice_get, Some, option_map}
use Rattle.std.proofs.lemmas.List.{length-map, length-take, get_or-take, get_or-map, get_or_past}
use Rattle.std.proofs.lemmas.Bool.{cases_lt, and_parts, ltb-true, ltb-false}
use Rattle.std.proofs.lemmas.Bool.Decides.{nat_tests}
use Rattle.std.proofs.lemmas.Option.{slice_get-get_or, slice_get-map}
use Rattle.hv_plan.specs.declared.prediction.Unit.{Unit}
use Rattle.hv_block.specs.Plans.{opening_unit}
use Rattle.hv_tree_model.specs.Sites.{Site, ctb_column, ctb_row, address_of, column_of, row_of, is_outside}
use Rattle.hv_tree_model.specs.EarlierUnits.{Square, Unavailable}
use Rattle.hv_tree_model.specs.Plans.{Plan, UnitsAround, square_or_none, square_around, is_in_picture, look_around}
use Rattle.hv_unit_model.proofs.GeometryLemmas.{address_of_place}
use Rattle.hv_near.specs.Squares.{Shows}
use Rattle.hv_inter_model.specs.UnitVectors.{unit_with_vector}
use Rattle.hv_vector_model.specs.Vectors.{plan_with_vectors, neighbourhood_of}
use Rattle.hv_amvp.specs.Own.{square_with_vector, own_squares}
use Rattle.hv_lemmas.proofs.BooleanLemmas.{same_where, other_where}

-- ---- the squares of the units are such

own_is : (units : List Unit) (a : ℕ) → a < length units →
    slice_index_or (map square_with_vector units) a Unavailable ≡
    square_or_none (slice_get (map unit_with_vector units) a)
own_is units a inside =
    let unit : Unit = slice_index_or units a opening_unit in
    let there : slice_get units a ≡ Some unit = slice_get-get_or units a opening_unit inside in
    get_or-map square_with_vector units a opening_unit Unavailable inside ∙
    sym (ap square_or_none (slice_get-map unit_with_vector units a ∙
    ap (option_map unit_with_vector) there))

pub own_shows : (site : Site) (plan : Plan) (address : ℕ) → length plan.units ≡ 64 →
    address < 64 → Shows site (plan_with_vectors plan) address (own_squares plan.units address)
own_shows site plan address all inside =
    let squares : List Square = map square_with_vector plan.units in
    let whole : length squares ≡ 64 = length-map plan.units square_with_vector ∙ all in
    record {
      count = omega (arith, length-take address squares, whole, inside);
      square = λ a before h.
          get_or-take address squares a Unavailable before ∙
          own_is plan.units a (omega (arith, before, inside, all));
    }

-- ---- two lists of such squares

same_square : (site : Site) (plan : Plan) (address : ℕ) (xs ys : List Square) (a : ℕ) →
    Shows site plan address xs → Shows site plan address ys → is_outside site a ≡ false →
    slice_index_or xs a Unavailable ≡ slice_index_or ys a Unavailable
same_square site plan address xs ys a s t h = elim (cases_lt a address) [
  | inl before ↦ s.square a before h ∙ sym (t.square a before h)
  | inr past ↦
      get_or_past xs a Unavailable (omega (arith, s.count, past)) ∙
      sym (get_or_past ys a Unavailable (omega (arith, t.count, past)))
]

-- a square of the block that is in the picture isn't outside
inside_of_block : (site : Site) (column row : ℕ) → 8 ≤ column → column < 16 → 8 ≤ row → row < 16 →
    is_in_picture site (8 * ctb_column site + column) (8 * ctb_row site + row) ≡ true →
    is_outside site (address_of (column - 8) (row - 8)) ≡ false
unfolding is_outside
inside_of_block site column row left near top high inside =
    let x : ℕ = 8 * ctb_column site + column in
    let y : ℕ = 8 * ctb_row site + row in
    let p = and_parts (nat_le 8 x && nat_le 8 y && nat_lt (8 * (x - 8)) site.width)
    (nat_lt (8 * (y - 8)) site.height) inside in
    let q = and_parts (nat_le 8 x && nat_le 8 y) (nat_lt (8 * (x - 8)) site.width) p.0 in
    let across : 8 * (x - 8) < site.width = ltb-true _ _ q.1 in
    let down : 8 * (y - 8) < site.height = ltb-true _ _ p.1 in
    let place = address_of_place (column - 8) (row - 8) (omega (arith, near, left))
    (omega (arith, high, top)) in
    let first : nat_le site.width (64 * ctb_column site + 8 * (column - 8)) ≡ false =
    grind (arith, nat_tests, across, left) in
    let second : nat_le site.height (64 * ctb_row site + 8 * (row - 8)) ≡ false =
    grind (arith, nat_tests, down, top) in
    rw (place.0, place.1) (rw (first, second) refl)

same_look : (site : Site) (around : UnitsAround) (plan : Plan) (address : ℕ)
    (xs ys : List Square) → Shows site plan address xs → Shows site plan address ys →
    (column row : ℕ) →
    look_around site around xs column row ≡ look_around site around ys column row
unfolding look_around
same_look site around plan address xs ys s t column row =
    same_where (is_in_picture site (8 * ctb_column site + column) (8 * ctb_row site + row))
    (square_around around xs column row) (square_around around ys column row) Unavailable
    (λ inside.
    other_where (nat_lt column 8) _ _ _
    (λ right.
    other_where (nat_lt row 8) _ _ _
    (λ low.
    same_where (nat_lt column 16 && nat_lt row 16) _ _ Unavailable
    (λ near.
    let parts = and_parts (nat_lt column 16) (nat_lt row 16) near in
    same_square site plan address xs ys (address_of (column - 8) (row - 8)) s t
    (inside_of_block site column row (ltb-false _ _ right) (ltb-true _ _ parts.0)
    (ltb-false _ _ low) (ltb-true _ _ parts.1) inside)))))

pub same_neighbourhood : (site : Site) (around : UnitsAround) (plan : Plan) (size address : ℕ)
    (xs ys : List Square) → Shows site plan address xs → Shows site plan address ys →
    neighbourhood_of (look_around site around) size address xs ≡
    neighbourhood_of (look_around site around) size address ys
same_neighbourhood site around plan size address xs ys s t =
    let same = same_look site around plan address xs ys s t in
    let x : ℕ = 8 + column_of address in
    let y : ℕ = 8 + row_of address in
    rw (
      same (x - 1) (y + 2 ^ size),
      same (x - 1) (y + 2 ^ size - 1),
      same (x + 2 ^ size) (y - 1),
      same (x + 2 ^ size - 1) (y - 1),
      same (x - 1) (y - 1),
    ) refl
