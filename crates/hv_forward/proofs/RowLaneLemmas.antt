-- Lanes of rows of numbers.
use Rattle.std.proofs.Common.{List, [], ap, ap₂, arith, length, map, pos, refl, subst, suc, sym, take, zero, ℕ, ℤ, ◌*ℤ◌, ◌*◌, ◌++◌, ◌+ℤ◌, ◌+◌, ◌-◌, ◌<◌, ◌∙◌, ◌∷◌, ◌≡◌, ◌≤◌}
use Rattle.std.specs.Int.RustNames.{unsigned_abs}
use Rattle.std.proofs.lemmas.Int.{fits_signed_from_abs, int_wrap_fits, ints, to_z-of_z, wrapping_add_is, wrapping_sub_is}
use mir.Syntax.{w16, w32, wrap_add, wrap_sub}
use mir.Val.{SFits, of_z, to_z}
use Rattle.std.proofs.lemmas.Bool.{cases_lt}
use Rattle.std.proofs.lemmas.List.{get_or-append_right, get_or-map, get_or_append_left, get_or_past, length-map}
use mathlib.Core.Logic.{⊎_elim}
use Rattle.hv_lanes.specs.Lanes.{FourLanes, Numbers, at, weight}
use Rattle.hv_forward.specs.Forward.{EightLanes, in_turn, quarter_sum}
use Rattle.hv_lanes.proofs.LaneStepLemmas.{kept, passed, regroup}
use Rattle.std.specs.Int.{int_wrap}
use lib.ListN.{get_or}
use Rattle.std.proofs.Math.IntN.{*ℤ_comm}
use Rattle.hv_sample_model.specs.Blocks.{sum_of}
use Rattle.hv_lanes.proofs.LaneSumLemmas.{lane, lane_is, numbers}
use Rattle.hv_lanes.proofs.FourLaneLemmas.{numbers_of_lanes}
use lib.Lanes.{zip2}
use borrow.Rule.Simd.Lanes.{act2}
use borrow.Table.Row.{s_int}
use Rattle.std.specs.Prelude.{◌-ℤ◌}
use Rattle.hv_lemmas.proofs.ComputedLemmas.{each_of_four, each_of_eight}

short : (most : ℕ) (z : ℤ) → most ≤ 32767 → unsigned_abs z ≤ most → SFits w16 z
short most z few h = fits_signed_from_abs w16 z (omega (arith, few, h))

pub numbers_of_eight : (most : ℕ) (c : ℕ → ℤ) (v : List ℤ) → most ≤ 32767 → EightLanes most c v → Numbers v
numbers_of_eight most c v few h k =
    ⊎_elim
    (λ (below : k < 8). subst (SFits w16) (sym (h.each k below)) (short most (c k) few (h.small k below)))
    (λ (past : 8 ≤ k). subst (SFits w16) (sym (get_or_past v k (pos 0) (omega (arith, past, h.count)))) (record { sfits = omega (arith, ints) }))
    (cases_lt k 8)

pub kept_eight : (most : ℕ) (c : ℕ → ℤ) (v : List ℤ) → most ≤ 32767 → EightLanes most c v → EightLanes most c (passed w16 v)
kept_eight most c v few h = subst (EightLanes most c) (sym (kept w16 v (numbers_of_eight most c v few h))) h

-- four lanes, one by one
pub four_lanes : (f : ℕ → ℤ) (a b c d : ℤ) → a ≡ int_wrap w32 (f 0) → b ≡ int_wrap w32 (f 1) → c ≡ int_wrap w32 (f 2) → d ≡ int_wrap w32 (f 3) → FourLanes f (a ∷ b ∷ c ∷ d ∷ [])
four_lanes f a b c d p q r s =
    record {
      count = refl;
      each = each_of_four (λ j. at (a ∷ b ∷ c ∷ d ∷ []) j ≡ int_wrap w32 (f j)) p q r s;
    }

-- a lane of a vector, before others
pub lane_at : (k : ℕ) (xs : List ℤ) (ys : List ℕ) → k < length xs → get_or (map (of_z w16) xs ++ ys) k 0 ≡ of_z w16 (at xs k)
lane_at k xs ys below =
    get_or_append_left (map (of_z w16) xs) ys 0 k (omega (arith, below, length-map xs (of_z w16))) ∙ get_or-map (of_z w16) xs k (pos 0) 0 below

pub wide_lane_at : (k : ℕ) (xs : List ℤ) (ys : List ℕ) → k < length xs → get_or (map (of_z w32) xs ++ ys) k 0 ≡ of_z w32 (at xs k)
wide_lane_at k xs ys below =
    get_or_append_left (map (of_z w32) xs) ys 0 k (omega (arith, below, length-map xs (of_z w32))) ∙ get_or-map (of_z w32) xs k (pos 0) 0 below

pub other_lane_at : (k n : ℕ) (xs ys : List ℤ) → length xs ≡ n → k < length ys → get_or (map (of_z w32) xs ++ map (of_z w32) ys) (n + k) 0 ≡ of_z w32 (at ys k)
other_lane_at k n xs ys l below =
    let here : n + k - n ≡ k = omega arith in
    get_or-append_right (map (of_z w32) xs) (map (of_z w32) ys) n (n + k) 0 (length-map xs (of_z w32) ∙ l) (omega arith) ∙
    ap (λ i. get_or (map (of_z w32) ys) i 0) here ∙ get_or-map (of_z w32) ys k (pos 0) 0 below

-- four products of a row, lane by lane
pub row_lane : (most q j : ℕ) (c : ℕ → ℤ) (xs ws : List ℤ) (ys vs : List ℕ) → q < 2 → j < 4 → most ≤ 32767 → length ws ≡ 16 → Numbers ws → EightLanes most c xs
    → (let x = map (of_z w16) xs ++ ys in
    let w = map (of_z w16) (take 16 ws) ++ vs in
    lane (get_or x (4 * q) 0) (get_or x (4 * q + 1) 0) (get_or x (4 * q + 2) 0) (get_or x (4 * q + 3) 0) (get_or w (2 * j) 0) (get_or w (2 * j + 1) 0) (get_or w (8 + 2 * j) 0) (get_or w (8 + 2 * j + 1) 0)) ≡ int_wrap w32 (quarter_sum ws c q j)
unfolding sum_of
row_lane most q j c xs ws ys vs half inside few l fw h =
    let fx : Numbers xs = numbers_of_eight most c xs few h in
    let n0 : 4 * q < length xs = omega (arith, half, h.count) in
    let n1 : 4 * q + 1 < length xs = omega (arith, half, h.count) in
    let n2 : 4 * q + 2 < length xs = omega (arith, half, h.count) in
    let n3 : 4 * q + 3 < length xs = omega (arith, half, h.count) in
    let turn = λ (x y v u : ℤ) (e : x ≡ y) (f : v ≡ u). ap₂ (λ a b. a *ℤ b) e f ∙ *ℤ_comm y u in
    let f : ℕ → ℤ = λ r. weight ws j r *ℤ c (4 * q + r) in
    let first : 4 * q ≡ 4 * q + 0 = omega arith in
    let t0 : at xs (4 * q) *ℤ at ws (2 * j) ≡ f 0 = turn _ (c (4 * q + 0)) _ (weight ws j 0) (h.each (4 * q) (omega (arith, half)) ∙ ap c first) (ap (at ws) (omega arith)) in
    let t1 : at xs (4 * q + 1) *ℤ at ws (2 * j + 1) ≡ f 1 = turn _ (c (4 * q + 1)) _ (weight ws j 1) (h.each (4 * q + 1) (omega (arith, half))) (ap (at ws) (omega arith)) in
    let t2 : at xs (4 * q + 2) *ℤ at ws (8 + 2 * j) ≡ f 2 = turn _ (c (4 * q + 2)) _ (weight ws j 2) (h.each (4 * q + 2) (omega (arith, half))) (ap (at ws) (omega arith)) in
    let t3 : at xs (4 * q + 3) *ℤ at ws (8 + 2 * j + 1) ≡ f 3 = turn _ (c (4 * q + 3)) _ (weight ws j 3) (h.each (4 * q + 3) (omega (arith, half))) (ap (at ws) (omega arith)) in
    rw (
      lane_at (4 * q) xs ys n0,
      lane_at (4 * q + 1) xs ys n1,
      lane_at (4 * q + 2) xs ys n2,
      lane_at (4 * q + 3) xs ys n3,
      numbers 16 (2 * j) ws vs l (omega (arith, inside)),
      numbers 16 (2 * j + 1) ws vs l (omega (arith, inside)),
      numbers 16 (8 + 2 * j) ws vs l (omega (arith, inside)),
      numbers 16 (8 + 2 * j + 1) ws vs l (omega (arith, inside)),
    )
    (lane_is (at xs (4 * q)) (at xs (4 * q + 1)) (at xs (4 * q + 2)) (at xs (4 * q + 3)) (at ws (2 * j)) (at ws (2 * j + 1)) (at ws (8 + 2 * j)) (at ws (8 + 2 * j + 1))
    (fx (4 * q)) (fx (4 * q + 1)) (fx (4 * q + 2)) (fx (4 * q + 3)) (fw (2 * j)) (fw (2 * j + 1)) (fw (8 + 2 * j)) (fw (8 + 2 * j + 1)) ∙
    ap (int_wrap w32) (ap₂ (λ a b. a +ℤ b) (ap₂ (λ a b. a +ℤ b) t0 t1) (ap₂ (λ a b. a +ℤ b) t2 t3) ∙ regroup (f 0) (f 1) (f 2) (f 3)))

-- lanes in turn
lane_of_first : (f : ℕ → ℤ) (k : ℕ) (xs : List ℤ) (ys : List ℕ) → k < 4 → FourLanes f xs → to_z w32 (get_or (map (of_z w32) xs ++ ys) k 0) ≡ int_wrap w32 (f k)
lane_of_first f k xs ys below h =
    ap (to_z w32) (wide_lane_at k xs ys (omega (arith, below, h.count))) ∙ to_z-of_z w32 (at xs k) (numbers_of_lanes f xs h k) ∙ h.each k below

lane_of_second : (g : ℕ → ℤ) (k : ℕ) (xs ys : List ℤ) → k < 4 → length xs ≡ 4 → FourLanes g ys → to_z w32 (get_or (map (of_z w32) xs ++ map (of_z w32) ys) (4 + k) 0) ≡ int_wrap w32 (g k)
lane_of_second g k xs ys below l h =
    ap (to_z w32) (other_lane_at k 4 xs ys l (omega (arith, below, h.count))) ∙ to_z-of_z w32 (at ys k) (numbers_of_lanes g ys h k) ∙ h.each k below

pub low_in_turn : (f g : ℕ → ℤ) (xs ys : List ℤ) → FourLanes f xs → FourLanes g ys
    → (let lane = λ (k : ℕ). to_z w32 (get_or (map (of_z w32) xs ++ map (of_z w32) ys) k 0) in
    FourLanes (in_turn f g) (lane 0 ∷ lane 4 ∷ lane 1 ∷ lane 5 ∷ []))
low_in_turn f g xs ys h k =
    four_lanes (in_turn f g) _ _ _ _
    (lane_of_first f 0 xs (map (of_z w32) ys) (omega arith) h) (lane_of_second g 0 xs ys (omega arith) h.count k)
    (lane_of_first f 1 xs (map (of_z w32) ys) (omega arith) h) (lane_of_second g 1 xs ys (omega arith) h.count k)

pub high_in_turn : (f g : ℕ → ℤ) (xs ys : List ℤ) → FourLanes f xs → FourLanes g ys
    → (let lane = λ (k : ℕ). to_z w32 (get_or (map (of_z w32) xs ++ map (of_z w32) ys) k 0) in
    FourLanes (λ j. in_turn f g (4 + j)) (lane 2 ∷ lane 6 ∷ lane 3 ∷ lane 7 ∷ []))
high_in_turn f g xs ys h k =
    four_lanes (λ j. in_turn f g (4 + j)) _ _ _ _
    (lane_of_first f 2 xs (map (of_z w32) ys) (omega arith) h) (lane_of_second g 2 xs ys (omega arith) h.count k)
    (lane_of_first f 3 xs (map (of_z w32) ys) (omega arith) h) (lane_of_second g 3 xs ys (omega arith) h.count k)

-- sums and differences of eights, the second of them from its end
abbrev plus : List ℕ → List ℕ → List ℕ
plus xs ys = zip2 (act2 wrap_add (s_int w16) (s_int w16) (s_int w16)) xs ys

abbrev minus : List ℕ → List ℕ → List ℕ
minus xs ys = zip2 (act2 wrap_sub (s_int w16) (s_int w16) (s_int w16)) xs ys

length-zip2 : (op : ℕ → ℕ → ℕ) (n : ℕ) (xs : List ℤ) (ys : List ℕ) → length xs ≡ n → length ys ≡ n → length (map (to_z w16) (zip2 op (map (of_z w16) xs) ys)) ≡ n
length-zip2 op zero [] ys l m = refl
length-zip2 op zero (x ∷ xs) ys l m = absurd (omega arith)
length-zip2 op (suc n) [] ys l m = absurd (omega arith)
length-zip2 op (suc n) (x ∷ xs) [] l m = absurd (omega arith)
length-zip2 op (suc n) (x ∷ xs) (y ∷ ys) l m = ap suc (length-zip2 op n xs ys (omega arith) (omega arith))

zip2_at : (op : ℕ → ℕ → ℕ) (n j : ℕ) (xs : List ℤ) (ys : List ℕ) → length xs ≡ n → length ys ≡ n → j < n → at (map (to_z w16) (zip2 op (map (of_z w16) xs) ys)) j ≡ to_z w16 (op (of_z w16 (at xs j)) (get_or ys j 0))
zip2_at op zero j xs ys l m p = absurd (omega (arith, p))
zip2_at op (suc n) j [] ys l m p = absurd (omega arith)
zip2_at op (suc n) j (x ∷ xs) [] l m p = absurd (omega arith)
zip2_at op (suc n) zero (x ∷ xs) (y ∷ ys) l m p = refl
zip2_at op (suc n) (suc j) (x ∷ xs) (y ∷ ys) l m p = zip2_at op n j xs ys (omega arith) (omega arith) (omega (arith, p))

abbrev turned : List ℤ → List ℕ
turned ys =
    let lane = λ (k : ℕ). get_or (map (of_z w16) ys ++ map (of_z w16) ys) k 0 in
    lane 7 ∷ lane 6 ∷ lane 5 ∷ lane 4 ∷ lane 3 ∷ lane 2 ∷ lane 1 ∷ lane 0 ∷ []

turned_at : (most : ℕ) (d : ℕ → ℤ) (ys : List ℤ) → EightLanes most d ys → (j : ℕ) → j < 8 → get_or (turned ys) j 0 ≡ of_z w16 (d (7 - j))
turned_at most d ys h =
    let one = λ (k : ℕ) (below : k < 8). lane_at k ys (map (of_z w16) ys) (omega (arith, below, h.count)) ∙ ap (of_z w16) (h.each k below) in
    each_of_eight (λ j. get_or (turned ys) j 0 ≡ of_z w16 (d (7 - j)))
    (one 7 (omega arith)) (one 6 (omega arith)) (one 5 (omega arith)) (one 4 (omega arith)) (one 3 (omega arith)) (one 2 (omega arith)) (one 1 (omega arith)) (one 0 (omega arith))

pub sums_folded : (most : ℕ) (c d : ℕ → ℤ) (xs ys : List ℤ) → most ≤ 16383 → EightLanes most c xs → EightLanes most d ys → EightLanes (2 * most) (λ x. c x +ℤ d (7 - x)) (map (to_z w16) (plus (map (of_z w16) xs) (turned ys)))
sums_folded most c d xs ys few h k =
    record {
      count = length-zip2 _ 8 xs (turned ys) h.count refl;
      each = λ j below.
          let far : 7 - j < 8 = omega (arith, below) in
          let fc : SFits w16 (c j) = short most (c j) (omega (arith, few)) (h.small j below) in
          let fd : SFits w16 (d (7 - j)) = short most (d (7 - j)) (omega (arith, few)) (k.small (7 - j) far) in
          let size : unsigned_abs (c j +ℤ d (7 - j)) ≤ 2 * most = omega (arith, ints, h.small j below, k.small (7 - j) far) in
          zip2_at _ 8 j xs (turned ys) h.count refl below ∙
          ap₂ (λ a b. to_z w16 (act2 wrap_add (s_int w16) (s_int w16) (s_int w16) (of_z w16 a) b)) (h.each j below) (turned_at most d ys k j below) ∙
          wrapping_add_is w16 (c j) (d (7 - j)) fc fd ∙ int_wrap_fits w16 (c j +ℤ d (7 - j)) (short (2 * most) (c j +ℤ d (7 - j)) (omega (arith, few)) size);
      small = λ j below. omega (arith, ints, h.small j below, k.small (7 - j) (omega (arith, below)));
    }

pub differences_folded : (most : ℕ) (c d : ℕ → ℤ) (xs ys : List ℤ) → most ≤ 16383 → EightLanes most c xs → EightLanes most d ys → EightLanes (2 * most) (λ x. c x -ℤ d (7 - x)) (map (to_z w16) (minus (map (of_z w16) xs) (turned ys)))
differences_folded most c d xs ys few h k =
    record {
      count = length-zip2 _ 8 xs (turned ys) h.count refl;
      each = λ j below.
          let far : 7 - j < 8 = omega (arith, below) in
          let fc : SFits w16 (c j) = short most (c j) (omega (arith, few)) (h.small j below) in
          let fd : SFits w16 (d (7 - j)) = short most (d (7 - j)) (omega (arith, few)) (k.small (7 - j) far) in
          let size : unsigned_abs (c j -ℤ d (7 - j)) ≤ 2 * most = omega (arith, ints, h.small j below, k.small (7 - j) far) in
          zip2_at _ 8 j xs (turned ys) h.count refl below ∙
          ap₂ (λ a b. to_z w16 (act2 wrap_sub (s_int w16) (s_int w16) (s_int w16) (of_z w16 a) b)) (h.each j below) (turned_at most d ys k j below) ∙
          wrapping_sub_is w16 (c j) (d (7 - j)) fc fd ∙ int_wrap_fits w16 (c j -ℤ d (7 - j)) (short (2 * most) (c j -ℤ d (7 - j)) (omega (arith, few)) size);
      small = λ j below. omega (arith, ints, h.small j below, k.small (7 - j) (omega (arith, below)));
    }
