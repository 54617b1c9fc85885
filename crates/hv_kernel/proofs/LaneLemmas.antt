-- What the operations on lanes give, as plain lists.
use Rattle.std.proofs.Common.{◌≡◌, ℕ, ◌+◌, ◌-◌, ◌*◌, ◌%◌, ◌^◌, ◌<◌, ◌≤◌, List, [], ◌∷◌, zero, suc, Fits, nat_lt, refl, arith, w8, w32, length}
use mathlib.Core.Bool.{cond}
use mathlib.Core.List.{map}
use Rattle.std.specs.Int.{abs_diff}
use Rattle.std.specs.Simd.Lanes.{zip2, Each1, Each2, sel_l, sum_l}
use Rattle.std.proofs.lemmas.Simd.{sum_bound, bytes_below, length-zip2, sum-zip2}
use lib.ListN.{replicate}
use Rattle.hv_kernel.specs.Differences.{sum_of_pairs, squared_difference}

-- `abs_diff` of two bytes chooses which difference to take, so that none wraps
pub gap_lane : (x y : ℕ) → x < 256 → y < 256 → (cond (nat_lt x y) y x + (2 ^ 8 - cond (nat_lt x y) x y)) % 2 ^ 8 ≡ abs_diff x y
gap_lane x y p q = grind arith

pub gap_lanes : (xs ys : List ℕ) → Each1 (Fits w8) xs → Each1 (Fits w8) ys → zip2 (λ a b. (a + (2 ^ 8 - b)) % 2 ^ 8) (sel_l (zip2 nat_lt xs ys) ys xs) (sel_l (zip2 nat_lt xs ys) xs ys) ≡ zip2 abs_diff xs ys
gap_lanes [] ys p q = refl
gap_lanes (x ∷ xs) [] p q = refl
gap_lanes (x ∷ xs) (y ∷ ys) p q = rw (gap_lane x y p.0.fits q.0.fits, gap_lanes xs ys p.1 q.1) refl

-- a difference that wraps in 32 bits
abbrev pub wrapped_gap : ℕ → ℕ → ℕ
wrapped_gap x y = (x + (2 ^ 32 - y)) % 2 ^ 32

-- of the two differences of two bytes that wrap, the smaller did not
pub wide_gap_lane : (x y : ℕ) → x < 256 → y < 256 → cond (nat_lt (wrapped_gap x y) (wrapped_gap y x)) (wrapped_gap x y) (wrapped_gap y x) ≡ abs_diff x y
wide_gap_lane x y p q = grind arith

pub wide_gap_lanes : (xs ys : List ℕ) → Each1 (Fits w8) xs → Each1 (Fits w8) ys → sel_l (zip2 nat_lt (zip2 wrapped_gap xs ys) (zip2 wrapped_gap ys xs)) (zip2 wrapped_gap xs ys) (zip2 wrapped_gap ys xs) ≡ zip2 abs_diff xs ys
wide_gap_lanes [] [] p q = refl
wide_gap_lanes [] (y ∷ ys) p q = refl
wide_gap_lanes (x ∷ xs) [] p q = refl
wide_gap_lanes (x ∷ xs) (y ∷ ys) p q = rw (wide_gap_lane x y p.0.fits q.0.fits, wide_gap_lanes xs ys p.1 q.1) refl

-- a cast that widens leaves each lane
pub map_same : (xs : List ℕ) → map (λ x. x) xs ≡ xs
map_same [] = refl
map_same (x ∷ xs) = rw (map_same xs) refl

-- n bytes sum to 255 n at most
pub sum_of_bytes : (xs : List ℕ) (n : ℕ) → length xs ≡ n → Each1 (Fits w8) xs → sum_l xs ≤ 255 * n
sum_of_bytes xs n e h = rw (← e) (sum_bound 255 xs (bytes_below xs h))

square_of_byte : (x : ℕ) → x < 256 → x * x ≤ 65025
square_of_byte x h = grind arith

-- the square of a byte fits 32 bits
pub squares_fit : (xs : List ℕ) → Each1 (Fits w8) xs → Each2 (λ a b. Fits w32 (a * b)) xs xs
squares_fit [] h = tt
squares_fit (x ∷ xs) h = (record { fits = omega (arith, square_of_byte x h.0.fits) }, squares_fit xs h.1)

squares_below : (xs : List ℕ) → Each1 (Fits w8) xs → Each1 (λ a. a ≤ 65025) (zip2 (λ x y. x * y) xs xs)
squares_below [] h = tt
squares_below (x ∷ xs) h = (square_of_byte x h.0.fits, squares_below xs h.1)

length_of_squares : (xs : List ℕ) → length (zip2 (λ (x y : ℕ). x * y) xs xs) ≡ length xs
length_of_squares [] = refl
length_of_squares (x ∷ xs) = rw (length_of_squares xs) refl

-- the squares of n bytes sum to 65025 n at most
pub sum_of_squares : (xs : List ℕ) (n : ℕ) → length xs ≡ n → Each1 (Fits w8) xs → sum_l (zip2 (λ x y. x * y) xs xs) ≤ 65025 * n
sum_of_squares xs n e h = rw (← e, ← length_of_squares xs) (sum_bound 65025 (zip2 (λ x y. x * y) xs xs) (squares_below xs h))

-- a number for each pair of lanes, summed
pub sum_of_measures : (measure : ℕ → ℕ → ℕ) (xs ys : List ℕ) → sum_l (zip2 measure xs ys) ≡ sum_of_pairs measure xs ys
sum_of_measures measure [] ys = refl
sum_of_measures measure (x ∷ xs) [] = refl
sum_of_measures measure (x ∷ xs) (y ∷ ys) = rw (sum_of_measures measure xs ys) refl

-- the squares of the differences, summed
pub sum_of_squared_gaps : (xs ys : List ℕ) → sum_l (zip2 (λ x y. x * y) (zip2 abs_diff xs ys) (zip2 abs_diff xs ys)) ≡ sum_of_pairs squared_difference xs ys
sum_of_squared_gaps [] ys = refl
sum_of_squared_gaps (x ∷ xs) [] = refl
sum_of_squared_gaps (x ∷ xs) (y ∷ ys) = rw (sum_of_squared_gaps xs ys) refl

pub sum_of_zeros : (n : ℕ) → sum_l (replicate n 0) ≡ 0
sum_of_zeros zero = refl
sum_of_zeros (suc n) = omega (arith, sum_of_zeros n)

gaps_below : (xs ys : List ℕ) → Each1 (Fits w8) xs → Each1 (Fits w8) ys → Each1 (λ a. a ≤ 255) (zip2 abs_diff xs ys)
gaps_below [] ys p q = tt
gaps_below (x ∷ xs) [] p q = tt
gaps_below (x ∷ xs) (y ∷ ys) p q = (omega (arith, p.0.fits, q.0.fits), gaps_below xs ys p.1 q.1)

-- the gaps of n pairs of bytes sum to 255 n at most
pub sum_of_gaps : (xs ys : List ℕ) (n : ℕ) → length xs ≡ n → length ys ≡ n → Each1 (Fits w8) xs → Each1 (Fits w8) ys → sum_l (zip2 abs_diff xs ys) ≤ 255 * n
sum_of_gaps xs ys n e f p q =
    omega (arith, sum_bound 255 (zip2 abs_diff xs ys) (gaps_below xs ys p q), length-zip2 abs_diff xs ys (omega arith))

-- sums of lanes, with the gaps of n pairs of bytes added
pub sum_with_gaps : (sums xs ys : List ℕ) (n : ℕ) → length sums ≡ n → length xs ≡ n → length ys ≡ n → sum_l (zip2 (λ a b. a + b) sums (zip2 abs_diff xs ys)) ≡ sum_l sums + sum_of_pairs abs_diff xs ys
sum_with_gaps sums xs ys n d e f =
    let long : length sums ≡ length (zip2 abs_diff xs ys) = omega (arith, length-zip2 abs_diff xs ys (omega arith)) in
    rw (← sum_of_measures abs_diff xs ys) (sum-zip2 sums (zip2 abs_diff xs ys) long)
