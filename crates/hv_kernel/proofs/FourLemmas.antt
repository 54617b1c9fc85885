-- Sums of four neighbouring samples.
use Rattle.std.proofs.Common.{◌≡◌, ℕ, ◌+◌, ◌*◌, ◌-◌, ◌<◌, ◌≤◌, List, [], ◌∷◌, zero, suc, length, take, drop, get_or, refl, arith, sym, ap, take-take}
use Rattle.std.specs.List.{sum}
use Rattle.std.specs.Simd.Lanes.{Each1, chunk, sum_l, pair_sums, products}
use Rattle.std.proofs.lemmas.List.{drop-take, drop-drop}
use Rattle.std.proofs.lemmas.List.Sums.{sum_by-cons}
use Rattle.std.proofs.lemmas.Simd.{sum_bound, Each1-chunk, length-chunk}
use lib.ListN.{replicate}
use Rattle.hv_kernel.specs.Blocks.{sum_of_rows}

-- `sum_l` and `sum` add in another order
pub sum_l_is_sum : (xs : List ℕ) → sum_l xs ≡ sum xs
sum_l_is_sum [] = refl
sum_l_is_sum (x ∷ xs) = rw (sum_l_is_sum xs) (sym (sum_by-cons (λ x. x) x xs))

-- weights of one leave each lane
pub products_by_ones : (xs : List ℕ) (n : ℕ) → length xs ≡ n → products xs (replicate n 1) ≡ xs
products_by_ones [] n e = refl
products_by_ones (x ∷ xs) zero e = absurd (omega arith)
products_by_ones (x ∷ xs) (suc n) e = rw (products_by_ones xs n (omega arith)) (ap (λ y. y ∷ xs) (omega arith))

-- the sum of four at a place
pub sum_of_four_at : (j : ℕ) (xs : List ℕ) → 4 * j + 4 ≤ length xs → get_or (pair_sums (pair_sums xs)) j 0 ≡ sum_l (take 4 (drop (4 * j) xs))
sum_of_four_at j [] h = absurd (omega arith)
sum_of_four_at j (a ∷ []) h = absurd (omega arith)
sum_of_four_at j (a ∷ b ∷ []) h = absurd (omega arith)
sum_of_four_at j (a ∷ b ∷ c ∷ []) h = absurd (omega arith)
sum_of_four_at zero (a ∷ b ∷ c ∷ d ∷ xs) h = omega arith
sum_of_four_at (suc j) (a ∷ b ∷ c ∷ d ∷ xs) h =
    let e : 4 * suc j ≡ suc (suc (suc (suc (4 * j)))) = omega arith in
    rw e (sum_of_four_at j xs (omega arith))

-- four bytes sum to 1020 at most
pub four_bytes_below : (at : ℕ) (xs : List ℕ) → at + 4 ≤ length xs → Each1 (λ x. x ≤ 255) xs → sum_l (take 4 (drop at xs)) ≤ 1020
four_bytes_below at xs h bytes =
    let bound : sum_l (chunk at 4 xs) ≤ 255 * length (chunk at 4 xs) = sum_bound 255 (chunk at 4 xs) (Each1-chunk (λ x. x ≤ 255) at 4 xs bytes) in
    omega (arith, bound, length-chunk at 4 xs h)

-- four samples of a run of 16 are four samples of the list
pub four_in_run : (xs : List ℕ) (at j k : ℕ) → j < 4 → k ≡ at + 4 * j → sum (take 4 (drop (4 * j) (take 16 (drop at xs)))) ≡ sum (take 4 (drop k xs))
four_in_run xs at j k below e =
    let run : 4 * j + (16 - 4 * j) ≡ 16 = omega arith in
    let room : 4 ≤ 16 - 4 * j = omega arith in
    let dropped : drop (4 * j) (take (4 * j + (16 - 4 * j)) (drop at xs)) ≡ take (16 - 4 * j) (drop (4 * j) (drop at xs)) = drop-take (4 * j) (16 - 4 * j) (drop at xs) in
    rw (e, ← drop-drop (4 * j) at xs, ← take-take 4 (16 - 4 * j) (drop (4 * j) (drop at xs)) room, ← dropped, run) refl

-- the four rows of a square
pub sum_of_four_rows : (of_row : ℕ → ℕ) → sum_of_rows of_row 4 ≡ (of_row 0 + of_row 1) + (of_row 2 + of_row 3)
unfolding sum_of_rows
sum_of_four_rows of_row = omega arith
