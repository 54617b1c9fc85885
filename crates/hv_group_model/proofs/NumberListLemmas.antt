-- Lists of numbers that fall to 0 and that rise: how long they are, what stands where, and tests of
-- all of them. For what is computed of each group, and for reference picture sets (8.3.2).
use Rattle.std.proofs.Common.{◌≡◌, ℕ, zero, suc, ◌+◌, ◌-◌, ◌<◌, ◌∙◌, ap, sym, Bool, true, refl, [], ◌∷◌, ◌++◌, length, slice_index_or, arith, ◌≤◌, inl, inr}
use Rattle.std.specs.Prelude.{◌⊎◌}
use Rattle.std.specs.List.{list_all}
use Rattle.std.proofs.lemmas.Bool.{and_parts, cases_lt}
use Rattle.hv_lemmas.proofs.ComputedLemmas.{holds_at}
use Rattle.hv_group_model.specs.Structure.{falling, rising}

-- what a test found of all numbers below n holds at each of them
below_all_case : (p : ℕ → Bool) (n i : ℕ) → (p n ≡ true) × (list_all p (falling n) ≡ true) →
    (list_all p (falling n) ≡ true → i < n → p i ≡ true) → i < suc n → (i < n) ⊎ (n ≤ i) → p i ≡ true
below_all_case p n i h ih k (inl q) = ih h.1 q
below_all_case p n i h ih k (inr q) = let e : i ≡ n = omega arith in rw e h.0

pub below_all : (p : ℕ → Bool) (n i : ℕ) → list_all p (falling n) ≡ true → i < n → p i ≡ true
below_all p zero i all below = absurd (omega arith)
below_all p (suc n) i all below =
    below_all_case p n i (and_parts (p n) (list_all p (falling n)) all) (below_all p n i) below (cases_lt i n)

pub length-rising : (n from : ℕ) → length (rising n from) ≡ n
length-rising zero from = refl
length-rising (suc n) from = ap suc (length-rising n (from + 1))

pub rising_at : (n from i d : ℕ) → i < n → slice_index_or (rising n from) i d ≡ from + i
rising_at zero from i d below = absurd (omega arith)
rising_at (suc n) from zero d below = omega arith
rising_at (suc n) from (suc i) d below =
    let rest : slice_index_or (rising n (from + 1)) i d ≡ from + 1 + i =
    rising_at n (from + 1) i d (omega arith) in
    rest ∙ omega arith

-- one more
pub rising_push : (n from : ℕ) → rising (n + 1) from ≡ rising n from ++ (from + n) ∷ []
rising_push zero from = ap (λ k. k ∷ []) (omega arith)
rising_push (suc n) from =
    let more : suc n + 1 ≡ suc (n + 1) = omega arith in
    let on : from + 1 + n ≡ from + suc n = omega arith in
    ap (λ k. rising k from) more
    ∙ ap (λ xs. from ∷ xs) (rising_push n (from + 1) ∙ ap (λ k. rising n (from + 1) ++ k ∷ []) on)

pub length-falling : (n : ℕ) → length (falling n) ≡ n
length-falling zero = refl
length-falling (suc n) = ap suc (length-falling n)

-- what a test found of all numbers of a range holds at each of them
pub in_range : (p : ℕ → Bool) (i from n : ℕ) → list_all p (rising n from) ≡ true → from ≤ i →
    i < from + n → p i ≡ true
in_range p i from n all above below =
    let at : slice_index_or (rising n from) (i - from) 0 ≡ i =
    rising_at n from (i - from) 0 (omega arith) ∙ omega arith in
    let long : length (rising n from) ≡ n = length-rising n from in
    sym (ap p at) ∙ holds_at p (rising n from) (i - from) 0 all (omega arith)
