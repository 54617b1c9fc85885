-- What is computed once over all elements of a list, or over all numbers below a bound, holds of each.
use Rattle.std.proofs.Common.{◌≡◌, ℕ, zero, suc, ◌<◌, ◌≤◌, Bool, true, ◌&&◌, ◌||◌, List, [], ◌∷◌, length, arith, nat_lt, slice_index_or, below_more}
use Rattle.std.specs.List.{list_all}
use Rattle.std.proofs.lemmas.Bool.{and_parts}
use Rattle.hv_lemmas.proofs.ComparisonLemmas.{lt_not_below}
use Rattle.hv_lemmas.proofs.BooleanLemmas.{or_right}

-- the test holds of 0, 1 and so on: of n numbers
abbrev pub all_below : ℕ → (ℕ → Bool) → Bool
all_below zero p = true
all_below (suc n) p = p n && all_below n p

pub holds_below : (n : ℕ) (p : ℕ → Bool) → all_below n p ≡ true → (i : ℕ) → i < n → p i ≡ true
holds_below zero p h i below = absurd (omega arith)
holds_below (suc n) p h i below =
    let parts : (p n ≡ true) × (all_below n p ≡ true) = and_parts (p n) (all_below n p) h in
    let Holds : ℕ → Type 0 = λ k. p k ≡ true in
    below_more Holds n (λ k less. holds_below n p parts.1 k less) parts.0 i (omega arith)

-- the same over the numbers from one bound on
pub holds_between : (least n : ℕ) (p : ℕ → Bool) → all_below n (λ i. nat_lt i least || p i) ≡ true →
    (i : ℕ) → least ≤ i → i < n → p i ≡ true
holds_between least n p h i from below =
    or_right (nat_lt i least) (p i) (holds_below n (λ i. nat_lt i least || p i) h i below)
    (lt_not_below i least from)

pub holds_at : {A : Type 0} (p : A → Bool) (xs : List A) (i : ℕ) (d : A) →
    list_all p xs ≡ true → i < length xs → p (slice_index_or xs i d) ≡ true
holds_at p [] i d all below = absurd (omega arith)
holds_at p (x ∷ xs) zero d all below = (and_parts (p x) (list_all p xs) all).0
holds_at p (x ∷ xs) (suc i) d all below =
    holds_at p xs i d (and_parts (p x) (list_all p xs) all).1 (omega arith)

-- what holds of four numbers, one by one
pub each_of_four : (P : ℕ → Type 0) → P 0 → P 1 → P 2 → P 3 → (i : ℕ) → i < 4 → P i
each_of_four P a b c d zero below = a
each_of_four P a b c d (suc zero) below = b
each_of_four P a b c d (suc (suc zero)) below = c
each_of_four P a b c d (suc (suc (suc zero))) below = d
each_of_four P a b c d (suc (suc (suc (suc i)))) below = absurd (omega arith)

-- what holds of eight numbers, one by one
pub each_of_eight : (P : ℕ → Type 0) → P 0 → P 1 → P 2 → P 3 → P 4 → P 5 → P 6 → P 7 →
    (i : ℕ) → i < 8 → P i
each_of_eight P a b c d e f g h zero below = a
each_of_eight P a b c d e f g h (suc zero) below = b
each_of_eight P a b c d e f g h (suc (suc zero)) below = c
each_of_eight P a b c d e f g h (suc (suc (suc zero))) below = d
each_of_eight P a b c d e f g h (suc (suc (suc (suc i)))) below =
    each_of_four (λ k. P (suc (suc (suc (suc k))))) e f g h i (omega arith)
