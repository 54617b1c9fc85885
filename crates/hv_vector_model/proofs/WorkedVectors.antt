-- Vectors worked by hand: scaling, the candidates of a unit, and the vectors of a block of four
-- units.
use Rattle.std.proofs.Common.{◌≡◌, ℕ, List, [], ◌∷◌, refl}
use Rattle.std.specs.Prelude.{Option, Some, None, ℤ, pos, neg_ℤ}
use Rattle.std.specs.Int.{int_wrap}
use Rattle.hv_plan.specs.declared.prediction.Mv.{Mv}
use Rattle.hv_tree_model.specs.Trees.{Inter, Tree, Leaf, Split}
use Rattle.hv_tree_model.specs.Sites.{site, address_of, column_of, row_of}
use Rattle.hv_tree_model.specs.EarlierUnits.{look_picture}
use Rattle.hv_vector_model.specs.declared.motion.Moving.{Moving}
use Rattle.hv_vector_model.specs.declared.motion.Neighbourhood.{Neighbourhood}
use Rattle.hv_vector_model.specs.VectorPrediction.{Distances, cut, distance, tx, distScaleFactor, scaled_component, scaled, mvpListL0}
use Rattle.hv_vector_model.specs.Vectors.{moved_by, tree_with_vectors, trees_with_vectors}

abbrev minus : ℕ → ℤ
minus n = neg_ℤ (pos n)

abbrev vector : ℤ → ℤ → Mv
vector x y = record { x = x; y = y }

-- ---- scaling

-- td and tb at their limits, and one beyond
greatest_distance : cut (pos 127) ≡ pos 127
greatest_distance = refl

beyond_greatest : cut (pos 128) ≡ pos 127
beyond_greatest = refl

least_distance : cut (minus 128) ≡ minus 128
least_distance = refl

beyond_least : cut (minus 129) ≡ minus 128
beyond_least = refl

-- 16385 / 3 and 16387 / 7: the quotient is cut towards 0, and half the distance is added before
tx_of_3 : tx (pos 3) ≡ pos 5461
tx_of_3 = refl

tx_of_minus_3 : tx (minus 3) ≡ minus 5461
tx_of_minus_3 = refl

tx_of_7 : tx (pos 7) ≡ pos 2341
tx_of_7 = refl

no_distance : tx (pos 0) ≡ pos 0
no_distance = refl

-- 12320 / 64, and -5429 / 64, which is rounded down
three_quarters : distScaleFactor (pos 3) (pos 4) ≡ pos 192
three_quarters = refl

minus_a_third : distScaleFactor (minus 1) (pos 3) ≡ minus 85
minus_a_third = refl

-- 32512 and -32512 are cut
greatest_factor : distScaleFactor (pos 127) (pos 1) ≡ pos 4095
greatest_factor = refl

least_factor : distScaleFactor (pos 127) (minus 1) ≡ minus 4096
least_factor = refl

-- (128 + 127) / 256, (384 + 127) / 256, and the same of the opposite
half_of_1 : scaled_component (pos 128) (pos 1) ≡ pos 0
half_of_1 = refl

half_of_3 : scaled_component (pos 128) (pos 3) ≡ pos 1
half_of_3 = refl

half_of_minus_3 : scaled_component (pos 128) (minus 3) ≡ minus 1
half_of_minus_3 = refl

-- 257 * 129 / 256 is above a half
rounded_up : scaled_component (pos 129) (pos 1) ≡ pos 1
rounded_up = refl

-- 4095 * 2049 / 256 is 32776: both cuts, and the last value before
cut_above : scaled_component (pos 4095) (pos 2049) ≡ pos 32767
cut_above = refl

cut_below : scaled_component (pos 4095) (minus 2049) ≡ minus 32768
cut_below = refl

before_the_cut : scaled_component (pos 4095) (pos 2048) ≡ pos 32760
before_the_cut = refl

-- (10, -7) from -4 to 4 and to 3, and both the other way
opposite : scaled (minus 4) (pos 4) (vector (pos 10) (minus 7)) ≡ vector (minus 10) (pos 7)
unfolding scaled
opposite = refl

opposite_and_shorter :
    scaled (minus 4) (pos 3) (vector (pos 10) (minus 7)) ≡ vector (minus 7) (pos 5)
unfolding scaled
opposite_and_shorter = refl

shorter : scaled (pos 4) (pos 3) (vector (pos 10) (minus 7)) ≡ vector (pos 7) (minus 5)
unfolding scaled
shorter = refl

from_front_to_back :
    scaled (pos 4) (minus 2) (vector (pos 10) (minus 7)) ≡ vector (minus 5) (pos 3)
unfolding scaled
from_front_to_back = refl

-- from 200, which is cut to 127, to 100
far : scaled (pos 200) (pos 100) (vector (pos 1000) (minus 1000)) ≡ vector (pos 789) (minus 789)
unfolding scaled
far = refl

-- ---- candidates: entry 0 is 4 pictures before, entry 1 is 2 pictures behind

abbrev distances : Distances
distances = pos 4 ∷ minus 2 ∷ []

moving : ℕ → ℤ → ℤ → Option Moving
moving reference x y = Some (record { reference = reference; mv = vector x y })

around : Option Moving → Option Moving → Option Moving → Option Moving → Option Moving →
    Neighbourhood
around a0 a1 b0 b1 b2 = record { a0 = a0; a1 = a1; b0 = b0; b1 = b1; b2 = b2 }

-- for entry 0
candidates : Neighbourhood → List Mv
candidates n = mvpListL0 distances 0 n

zero : Mv
zero = vector (pos 0) (pos 0)

nothing_moves : candidates (around None None None None None) ≡ zero ∷ zero ∷ []
unfolding candidates around distance scaled zero
nothing_moves = refl

a0_goes_first :
    candidates (around (moving 0 (pos 1) (pos 2)) (moving 0 (pos 3) (pos 4)) None None None) ≡
    vector (pos 1) (pos 2) ∷ zero ∷ []
unfolding candidates around distance scaled moving zero
a0_goes_first = refl

same_reference_goes_first :
    candidates (around (moving 1 (pos 1) (pos 2)) (moving 0 (pos 3) (pos 4)) None None None) ≡
    vector (pos 3) (pos 4) ∷ zero ∷ []
unfolding candidates around distance scaled moving zero
same_reference_goes_first = refl

-- by -2
a0_is_scaled :
    candidates
    (around (moving 1 (pos 5) (minus 3)) (moving 1 (pos 3) (pos 4)) None None None) ≡
    vector (minus 10) (pos 6) ∷ zero ∷ []
unfolding candidates around distance scaled moving zero
a0_is_scaled = refl

a1_is_scaled :
    candidates (around None (moving 1 (pos 5) (minus 3)) None None None) ≡
    vector (minus 10) (pos 6) ∷ zero ∷ []
unfolding candidates around distance scaled moving zero
a1_is_scaled = refl

both_are_found :
    candidates
    (around (moving 0 (pos 1) (pos 2)) None (moving 1 (pos 9) (pos 9)) (moving 0 (pos 3) (pos 4))
    (moving 0 (pos 7) (pos 7))) ≡
    vector (pos 1) (pos 2) ∷ vector (pos 3) (pos 4) ∷ []
unfolding candidates around distance scaled moving zero
both_are_found = refl

-- those above aren't scaled where one at the left moves, even if that is scaled
b_is_not_scaled :
    candidates
    (around None (moving 1 (pos 5) (minus 3)) (moving 1 (pos 9) (pos 9)) None None) ≡
    vector (minus 10) (pos 6) ∷ zero ∷ []
unfolding candidates around distance scaled moving zero
b_is_not_scaled = refl

equal_ones :
    candidates
    (around (moving 0 (pos 1) (pos 2)) None None None (moving 0 (pos 1) (pos 2))) ≡
    vector (pos 1) (pos 2) ∷ zero ∷ []
unfolding candidates around distance scaled moving zero
equal_ones = refl

equal_in_one_component :
    candidates
    (around (moving 0 (pos 1) (pos 2)) None None None (moving 0 (pos 1) (pos 3))) ≡
    vector (pos 1) (pos 2) ∷ vector (pos 1) (pos 3) ∷ []
unfolding candidates around distance scaled moving zero
equal_in_one_component = refl

-- Nothing at the left: A takes B1, whose reference is the same, and B is B0, scaled.
a_takes_b :
    candidates
    (around None None (moving 1 (pos 5) (minus 3)) (moving 0 (pos 3) (pos 4)) None) ≡
    vector (pos 3) (pos 4) ∷ vector (minus 10) (pos 6) ∷ []
unfolding candidates around distance scaled moving zero
a_takes_b = refl

-- B is B2 again, and equals A
a_takes_b2 :
    candidates (around None None None None (moving 0 (pos 3) (pos 4))) ≡
    vector (pos 3) (pos 4) ∷ zero ∷ []
unfolding candidates around distance scaled moving zero
a_takes_b2 = refl

-- B alone, scaled
b1_is_scaled :
    candidates
    (around None None None (moving 1 (pos 5) (minus 3)) (moving 1 (pos 9) (pos 9))) ≡
    vector (minus 10) (pos 6) ∷ zero ∷ []
unfolding candidates around distance scaled moving zero
b1_is_scaled = refl

-- for entry 1, by -1/2
for_the_other :
    mvpListL0 distances 1 (around (moving 0 (pos 10) (minus 7)) None None None None) ≡
    vector (minus 5) (pos 3) ∷ zero ∷ []
unfolding around distance scaled moving zero
for_the_other = refl

-- ---- vectors

-- 32767 and 1, -32768 and -1
modulo_2_to_the_16 :
    moved_by (vector (pos 32767) (minus 32768)) (vector (pos 1) (minus 1)) ≡
    vector (minus 32768) (pos 32767)
unfolding int_wrap
modulo_2_to_the_16 = refl

abbrev inter : ℕ → ℤ → ℤ → Tree
inter flag x y =
    Leaf (Inter (record { ref_idx_l0 = 0; mvp_l0_flag = flag; MvdL0 = vector x y })) []

-- Four units of 32x32. The second has the first at its left, and the third below isn't decoded yet.
-- The third has the second at B0 and the first at B1, so its second candidate is zero; the fourth
-- has the third at A1, and the second at B1.
abbrev coded : Tree
coded =
    Split (inter 0 (pos 8) (pos 4)) (inter 0 (pos 1) (pos 1)) (inter 1 (pos 2) (minus 3))
    (inter 1 (pos 0) (pos 1))

abbrev moved : Tree
moved =
    Split (inter 0 (pos 8) (pos 4)) (inter 0 (pos 9) (pos 5)) (inter 1 (pos 2) (minus 3))
    (inter 1 (pos 9) (pos 6))

four_units : tree_with_vectors distances (look_picture (site 64 64 0) []) 3 0 [] coded ≡ moved
unfolding tree_with_vectors look_picture address_of column_of row_of int_wrap
four_units = refl

-- A block of one unit behind it has the fourth at A1, and nothing else.
abbrev behind_it : Tree
behind_it = inter 0 (pos 1) (pos 0)

two_blocks :
    trees_with_vectors distances (site 128 64 0 ∷ site 128 64 1 ∷ []) []
    (coded ∷ behind_it ∷ []) ≡ moved ∷ inter 0 (pos 10) (pos 6) ∷ []
unfolding trees_with_vectors tree_with_vectors look_picture address_of column_of row_of int_wrap
two_blocks = refl
