-- Lanes one by one.
use Rattle.std.proofs.Common.{◌≡◌, ℕ, ◌+◌, ◌*◌, ◌%◌, ◌^◌, ◌<◌, ◌≤◌, Bool, false, List, [], ◌∷◌, length, get_or, refl, arith, sym, ap, ◌∙◌, nat_lt, min, ◌++◌, length-append, zero-add}
use mathlib.Core.Bool.{cond}
use Rattle.std.specs.Simd.Lanes.{zip2, sel_l, pick_l, chunk}
use Rattle.std.specs.List.{range_with_len}
use Rattle.std.proofs.lemmas.List.{get_or_append_left}
use Rattle.std.proofs.lemmas.Bool.Decides.{nat_tests}
use Rattle.std.proofs.lemmas.Simd.{get_or-zip2, length-zip2, get_or-sel_l, get_or-replicate, length-replicate, pick_l-range_with_len, get_or-chunk}
use lib.ListN.{replicate}

pub added : (xs ys : List ℕ) (n j : ℕ) → length xs ≡ n → length ys ≡ n → j < n → get_or xs j 0 + get_or ys j 0 < 4294967296 → get_or (zip2 (λ a b. (a + b) % 2 ^ 32) xs ys) j 0 ≡ get_or xs j 0 + get_or ys j 0
added xs ys n j e f h small = rw (get_or-zip2 (λ a b. (a + b) % 2 ^ 32) xs ys j 0 0 0 (omega arith) (omega arith)) (omega (arith, small))

pub times : (xs : List ℕ) (n m j : ℕ) → length xs ≡ n → j < n → get_or xs j 0 * m < 4294967296 → get_or (zip2 (λ a b. (a * b) % 2 ^ 32) xs (replicate n m)) j 0 ≡ get_or xs j 0 * m
times xs n m j e h small =
    rw (get_or-zip2 (λ a b. (a * b) % 2 ^ 32) xs (replicate n m) j 0 0 0 (omega arith) (omega (arith, length-replicate n m)), get_or-replicate n j m 0 h) (omega (arith, small))

pub length_zip : (f : ℕ → ℕ → ℕ) (xs ys : List ℕ) (n : ℕ) → length xs ≡ n → length ys ≡ n → length (zip2 f xs ys) ≡ n
length_zip f xs ys n e f' = length-zip2 f xs ys (e ∙ sym f') ∙ e

length_tests : (t : ℕ → ℕ → Bool) (xs ys : List ℕ) (n : ℕ) → length xs ≡ n → length ys ≡ n → length (zip2 t xs ys) ≡ n
length_tests t xs ys n e f = length-zip2 t xs ys (e ∙ sym f) ∙ e

lesser : (a b : ℕ) → cond (nat_lt a b) a b ≡ min a b
lesser a b = grind (arith, nat_tests)

pub lesser_lane : (xs ys : List ℕ) (n j : ℕ) → length xs ≡ n → length ys ≡ n → j < n → get_or (sel_l (zip2 nat_lt xs ys) xs ys) j 0 ≡ min (get_or xs j 0) (get_or ys j 0)
lesser_lane xs ys n j e f h =
    let long = length_tests nat_lt xs ys n e f in
    rw (get_or-sel_l (zip2 nat_lt xs ys) xs ys j 0 (omega (arith, long)) (omega arith) (omega arith), get_or-zip2 nat_lt xs ys j 0 0 false (omega arith) (omega arith)) (lesser (get_or xs j 0) (get_or ys j 0))

-- some lanes of a vector that was shuffled with itself
pub part_at : (xs ys : List ℕ) (m a n j : ℕ) → length xs ≡ m → a + n ≤ m → j < n → get_or (pick_l 0 (xs ++ ys) (range_with_len a n)) j 0 ≡ get_or xs (a + j) 0
part_at xs ys m a n j e p h =
    let long : a + n ≤ length (xs ++ ys) = omega (arith, length-append xs ys) in
    rw (pick_l-range_with_len 0 (xs ++ ys) a n long, get_or-chunk a n (xs ++ ys) j 0 h) (get_or_append_left xs ys 0 (a + j) (omega arith))

-- a load of n elements from `s[at..]`
pub loaded : (xs : List ℕ) (at rest n j : ℕ) → n ≤ rest → j < n → get_or (chunk 0 n (chunk at rest xs)) j 0 ≡ get_or xs (at + j) 0
loaded xs at rest n j p h = get_or-chunk 0 n (chunk at rest xs) j 0 h ∙ (ap (λ k. get_or (chunk at rest xs) k 0) (zero-add j) ∙ get_or-chunk at rest xs j 0 (omega arith))

pub part_small : (xs ys : List ℕ) (m a n b j : ℕ) → length xs ≡ m → a + n ≤ m → ((k : ℕ) → k < m → get_or xs k 0 ≤ b) → b ≤ 300000 → j < n → get_or (pick_l 0 (xs ++ ys) (range_with_len a n)) j 0 ≤ 300000
part_small xs ys m a n b j e p f q h = omega (arith, part_at xs ys m a n j e p h, f (a + j) (omega arith))

-- the sum of four parts of a vector
pub four_parts : (xs ys : List ℕ) (m n a b c r j : ℕ) → length xs ≡ m → n ≤ m → a + n ≤ m → b + n ≤ m → c + n ≤ m → j < n → r ≡ (get_or (pick_l 0 (xs ++ ys) (range_with_len 0 n)) j 0 + get_or (pick_l 0 (xs ++ ys) (range_with_len a n)) j 0) + (get_or (pick_l 0 (xs ++ ys) (range_with_len b n)) j 0 + get_or (pick_l 0 (xs ++ ys) (range_with_len c n)) j 0) → r ≡ (get_or xs j 0 + get_or xs (a + j) 0) + (get_or xs (b + j) 0 + get_or xs (c + j) 0)
four_parts xs ys m n a b c r j e p0 p1 p2 p3 h is =
    let first : get_or (pick_l 0 (xs ++ ys) (range_with_len 0 n)) j 0 ≡ get_or xs j 0 = part_at xs ys m 0 n j e (omega arith) h ∙ ap (λ k. get_or xs k 0) (zero-add j) in
    omega (arith, is, first, part_at xs ys m a n j e p1 h, part_at xs ys m b n j e p2 h, part_at xs ys m c n j e p3 h)

-- lane by lane the lesser of two
pub lesser_lanes : (xs ys : List ℕ) → sel_l (zip2 nat_lt xs ys) xs ys ≡ zip2 min xs ys
lesser_lanes [] ys = refl
lesser_lanes (x ∷ xs) [] = refl
lesser_lanes (x ∷ xs) (y ∷ ys) = rw (lesser x y, lesser_lanes xs ys) refl
