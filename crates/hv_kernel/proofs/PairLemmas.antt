-- Sums over the pairs of two lists, part by part.
use Rattle.std.proofs.Common.{◌≡◌, ℕ, ◌+◌, ◌≤◌, List, [], ◌∷◌, ◌++◌, length, take, drop, sym, ◌∙◌, arith, add_assoc, zero-add, take-add, length-take-le}
use Rattle.hv_kernel.specs.Differences.{sum_of_pairs}

-- lists that are joined have the sum of both parts
pub sum_of_pairs-append : (measure : ℕ → ℕ → ℕ) (xs us ys vs : List ℕ) → length xs ≡ length ys → sum_of_pairs measure (xs ++ us) (ys ++ vs) ≡ sum_of_pairs measure xs ys + sum_of_pairs measure us vs
sum_of_pairs-append measure [] us [] vs e = sym (zero-add (sum_of_pairs measure us vs))
sum_of_pairs-append measure [] us (y ∷ ys) vs e = absurd (omega arith)
sum_of_pairs-append measure (x ∷ xs) us [] vs e = absurd (omega arith)
sum_of_pairs-append measure (x ∷ xs) us (y ∷ ys) vs e =
    rw (sum_of_pairs-append measure xs us ys vs (omega arith)) (sym (add_assoc (measure x y) (sum_of_pairs measure xs ys) (sum_of_pairs measure us vs)))

-- the first places, and then the n places from i on
pub sum_of_pairs-take_more : (measure : ℕ → ℕ → ℕ) (i n : ℕ) (xs ys : List ℕ) → i ≤ length xs → i ≤ length ys → sum_of_pairs measure (take (i + n) xs) (take (i + n) ys) ≡ sum_of_pairs measure (take i xs) (take i ys) + sum_of_pairs measure (take n (drop i xs)) (take n (drop i ys))
sum_of_pairs-take_more measure i n xs ys p q =
    rw (take-add i n xs, take-add i n ys)
    (sum_of_pairs-append measure (take i xs) (take n (drop i xs)) (take i ys) (take n (drop i ys)) (length-take-le i xs p ∙ sym (length-take-le i ys q)))
