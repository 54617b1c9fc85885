-- Four lanes as places of a sum over a column.
use Rattle.std.proofs.Common.{List, [], ap, ap₂, arith, map, pos, refl, subst, suc, sym, ℕ, ℤ, ◌*ℤ◌, ◌*◌, ◌++◌, ◌+ℤ◌, ◌+◌, ◌-◌, ◌<◌, ◌^◌, ◌∙◌, ◌∷◌, ◌≡◌, ◌≤◌}
use Rattle.std.specs.Prelude.{neg_ℤ, ◌-ℤ◌}
use Rattle.std.specs.Int.{int_wrap}
use Rattle.std.proofs.lemmas.Int.{int_wrap-add_left, int_wrap-sub_right, ints, unsigned_abs-mul}
use mir.Syntax.{w16, w32}
use lib.ListN.{get_or}
use mir.Val.{SFits, of_z, to_z}
use Rattle.hv_lanes.proofs.LaneStepLemmas.{differed, differed_at, passed}
use Rattle.hv_lanes.proofs.FourLaneLemmas.{IsSum, kept_four, numbers_of_lanes, same_lanes}
use Rattle.hv_lanes.specs.Lanes.{FourLanes, at, in_pairs, weight}
use Rattle.hv_transform.specs.Columns.{AreFew, ColumnSums, HasWeights, HaveBits, column_sum, in_order, lane_sum, numbers_from, odd_sum, two_sums}
use Rattle.hv_transform.proofs.ColumnHalfLemmas.{high_half, low_half}
use Rattle.hv_sample_model.specs.Blocks.{sum_of}
use Rattle.hv_lemmas.proofs.ComputedLemmas.{each_of_four}

parted : (a b : ℤ) → int_wrap w32 (int_wrap w32 a -ℤ int_wrap w32 b) ≡ int_wrap w32 (a -ℤ b)
parted a b = int_wrap-add_left w32 a (neg_ℤ (int_wrap w32 b)) ∙ int_wrap-sub_right w32 a b

abbrev backwards : List ℤ → List ℤ → List ℤ
backwards a b = let d : ℕ → ℤ = λ k. to_z w32 (get_or (differed a b ++ differed a b) k 0) in d 3 ∷ d 2 ∷ d 1 ∷ d 0 ∷ []

pub lanes_mirrored : (f g : ℕ → ℤ) (a b : List ℤ) → FourLanes f a → FourLanes g b → FourLanes (λ j. f (3 - j) -ℤ g (3 - j)) (backwards a b)
lanes_mirrored f g a b h k =
    let one = λ (j : ℕ) (below : j < 4).
    differed_at 4 j a b (differed a b) h.count k.count (numbers_of_lanes f a h) (numbers_of_lanes g b k) below ∙
    ap₂ (λ x y. int_wrap w32 (x -ℤ y)) (h.each j below) (k.each j below) ∙
    parted (f j) (g j) in
    record {
      count = refl;
      each = each_of_four (λ j. at (backwards a b) j ≡ int_wrap w32 (f (3 - j) -ℤ g (3 - j)))
          (one 3 (omega arith)) (one 2 (omega arith)) (one 1 (omega arith)) (one 0 (omega arith));
    }

abbrev pub IsMirrored : List ℤ → List ℤ → List ℤ → Type 0
IsMirrored a b r = (f g : ℕ → ℤ) → FourLanes f (passed w32 a) → FourLanes g (passed w32 b) → FourLanes (λ j. f (3 - j) -ℤ g (3 - j)) r

-- four places of an odd half
abbrev pub Odd : ℕ → (ℕ → ℤ) → ℕ → List ℤ → Type 0
Odd d c n lanes = FourLanes (λ j. odd_sum (d + 2) c (n + j)) lanes

pub low_lanes : (d n : ℕ) (c : ℕ → ℤ) (a b r : List ℤ) → d ≤ 2 → n + 4 ≤ 2 ^ (d + 2) → ColumnSums d (λ k. c (2 ^ (d + 2) + k)) n a → Odd d c n b → IsSum a b r → FourLanes (λ j. column_sum (d + 2 + 1) (in_order (suc d) c) (n + j)) (passed w32 r)
low_lanes d n c a b r few inside h k s =
    let f : ℕ → ℤ = λ j. column_sum (d + 2) (in_order d (λ k. c (2 ^ (d + 2) + k))) (n + j) in
    let g : ℕ → ℤ = λ j. odd_sum (d + 2) c (n + j) in
    kept_four _ r
    (same_lanes (λ j. f j +ℤ g j) (λ j. column_sum (d + 2 + 1) (in_order (suc d) c) (n + j)) r
    (λ j below. low_half d (n + j) c few (omega (arith, inside, below)))
    (s f g (kept_four f a h) (kept_four g b k)))

pub high_lanes : (d n m : ℕ) (c : ℕ → ℤ) (a b r : List ℤ) → d ≤ 2 → n + 4 ≤ 2 ^ (d + 2) → m + n + 4 ≡ 2 * 2 ^ (d + 2) → ColumnSums d (λ k. c (2 ^ (d + 2) + k)) n a → Odd d c n b → IsMirrored a b r → FourLanes (λ j. column_sum (d + 2 + 1) (in_order (suc d) c) (m + j)) (passed w32 r)
high_lanes d n m c a b r few inside far h k s =
    let f : ℕ → ℤ = λ j. column_sum (d + 2) (in_order d (λ k. c (2 ^ (d + 2) + k))) (n + j) in
    let g : ℕ → ℤ = λ j. odd_sum (d + 2) c (n + j) in
    kept_four _ r
    (same_lanes (λ j. f (3 - j) -ℤ g (3 - j)) (λ j. column_sum (d + 2 + 1) (in_order (suc d) c) (m + j)) r
    (λ j below. high_half d (n + (3 - j)) c few (omega (arith, inside, below)) ∙ ap (column_sum (d + 2 + 1) (in_order (suc d) c)) (omega (arith, far, below, inside)))
    (s f g (kept_four f a h) (kept_four g b k)))

pub bits_from : (count few h : ℕ) (rows : List (List ℤ)) (i p : ℕ) → HaveBits count rows i p → 2 * h + few ≤ count → HaveBits few rows i (p + h)
bits_from count few h rows i p f fit r below =
    subst (SFits w16) (ap (in_pairs rows i) (omega arith)) (f (2 * h + r) (omega (arith, fit, below)))

pub zero_times : (a : ℤ) → a *ℤ pos 0 ≡ pos 0
zero_times a = omega (arith, ints, unsigned_abs-mul a (pos 0))

-- numbers that are 0 add nothing
pub few_sum : (count h : ℕ) (w : List ℤ) (rows : List (List ℤ)) (i p j : ℕ) → AreFew count rows i p → 4 ≤ 2 * h → 2 * h + 4 ≤ count → lane_sum w rows i (2 * (p + h)) j ≡ pos 0
unfolding sum_of
few_sum count h w rows i p j few far fit =
    let each : (r : ℕ) → r < 4 → weight w j r *ℤ in_pairs rows i (2 * (p + h) + r) ≡ pos 0 =
    λ r below. ap (λ z. weight w j r *ℤ z) (ap (in_pairs rows i) (omega arith) ∙ few (2 * h + r) (omega (arith, far)) (omega (arith, fit, below))) ∙ zero_times (weight w j r) in
    rw (each 0 (omega arith), each 1 (omega arith), each 2 (omega arith), each 3 (omega arith)) (omega (arith, ints))

-- the sum of lanes, where what is added is 0
pub more_of_0 : (f g : ℕ → ℤ) (v : List ℤ) → ((j : ℕ) → g j ≡ pos 0) → FourLanes f v → FourLanes (λ j. f j +ℤ g j) v
more_of_0 f g v none h =
    same_lanes f (λ j. f j +ℤ g j) v (λ j below. plus_0 (f j) (g j) (none j)) h
  where
    plus_0 : (a b : ℤ) → b ≡ pos 0 → a ≡ a +ℤ b
    plus_0 a b e = omega (arith, ints, e)

-- lanes that were chosen, as they are kept
pub chosen : (f : ℕ → ℤ) (v : List ℤ) (bits : List ℕ) → bits ≡ map (of_z w32) v → FourLanes f v → FourLanes f (map (to_z w32) bits)
chosen f v bits e h = subst (λ bits. FourLanes f (map (to_z w32) bits)) (sym e) (kept_four f v h)

pub few_sums : (w v : List ℤ) (rows : List (List ℤ)) (i p j : ℕ) → AreFew 16 rows i p → two_sums w v rows i (p + 4) j ≡ pos 0
few_sums w v rows i p j few =
    let first : lane_sum w rows i (2 * (p + 4)) j ≡ pos 0 = few_sum 16 4 w rows i p j few (omega arith) (omega arith) in
    let e : p + 6 ≡ p + 4 + 2 = omega arith in
    let second : lane_sum v rows i (2 * (p + 4 + 2)) j ≡ pos 0 = subst (λ q. lane_sum v rows i (2 * q) j ≡ pos 0) e (few_sum 16 6 v rows i p j few (omega arith) (omega arith)) in
    rw (first, second) (omega (arith, ints))

pub weights_below : (l m : ℕ) (table : List (List ℤ)) → l ≤ m → HasWeights m table → HasWeights l table
weights_below l m table less h =
    record {
      even = h.even;
      odd = λ d g q inside s t. h.odd d g q (omega (arith, less, inside)) s t;
      small = h.small;
    }

-- the column that the coefficients with even numbers make
pub others_from : (d n p q : ℕ) (rows : List (List ℤ)) (i : ℕ) (v : List ℤ) → 2 * q ≡ 2 * p + 2 ^ (d + 2) → ColumnSums d (numbers_from rows i q) n v → ColumnSums d (λ k. numbers_from rows i p (2 ^ (d + 2) + k)) n v
others_from d n p q rows i v e h =
    subst (λ c. ColumnSums d c n v) (λ j k. in_pairs rows i (number k j)) h
  where
    number : (k : ℕ) → 2 * q + k ≡ 2 * p + (2 ^ (d + 2) + k)
    number k = omega (arith, e)
