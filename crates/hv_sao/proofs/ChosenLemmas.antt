-- Sums over the locations that pass a test, and over keys.
use Rattle.std.proofs.Common.{◌≡◌, ℕ, zero, suc, ◌+◌, ◌-◌, ◌<◌, ◌≤◌, Bool, true, false, cond, nat_eq, ◌⊎◌, ⊎_elim, List, [], ◌∷◌, ◌++◌, length, map, ℤ, pos, ◌+ℤ◌, ◌-ℤ◌, ◌*ℤ◌, refl, sym, ◌∙◌, ap, ap₂, arith, add-one, inr}
use Rattle.std.specs.List.{filter}
use Rattle.std.proofs.lemmas.Int.{ints}
use Rattle.std.proofs.lemmas.Bool.{cases_lt, eq-eqb, ne_eqb}
use Rattle.hv_filter_model.specs.Blocks.{Location}
use Rattle.hv_filter_model.specs.OffsetDecision.{sum_of}
use Rattle.hv_sao.specs.Tallies.{sum_upto, chosen, has_key}
use Rattle.hv_sao.proofs.NumberLemmas.{times_sum, sum_times}

pub chosen-append : (t : Location → Bool) (f : Location → ℤ) (xs ys : List Location) →
    chosen t f (xs ++ ys) ≡ chosen t f xs +ℤ chosen t f ys
unfolding chosen
chosen-append t f [] ys = omega (arith, ints)
chosen-append t f (a ∷ xs) ys =
    let ih : chosen t f (xs ++ ys) ≡ chosen t f xs +ℤ chosen t f ys = chosen-append t f xs ys in
    omega (arith, ints, ih)

pub chosen-one : (t : Location → Bool) (f : Location → ℤ) (a : Location) → chosen t f (a ∷ []) ≡ cond (t a) (f a) (pos 0)
unfolding chosen
chosen-one t f a = omega (arith, ints)

pub chosen-none : (t : Location → Bool) (f : Location → ℤ) → chosen t f [] ≡ pos 0
unfolding chosen
chosen-none t f = refl

pub chosen-same : (t u : Location → Bool) (f g : Location → ℤ) (xs : List Location) →
    ((a : Location) → cond (t a) (f a) (pos 0) ≡ cond (u a) (g a) (pos 0)) → chosen t f xs ≡ chosen u g xs
unfolding chosen
chosen-same t u f g [] same = refl
chosen-same t u f g (a ∷ xs) same = ap₂ (λ y z. y +ℤ z) (same a) (chosen-same t u f g xs same)

count_step : (b : Bool) (a : Location) (rest : List Location) →
    pos (length (cond b (a ∷ rest) rest)) ≡ cond b (pos 1) (pos 0) +ℤ pos (length rest)
count_step true a rest = omega (arith, ints)
count_step false a rest = omega (arith, ints)

pub chosen-count : (p : Location → Bool) (xs : List Location) → pos (length (filter p xs)) ≡ chosen p (λ a. pos 1) xs
unfolding chosen
chosen-count p [] = refl
chosen-count p (a ∷ xs) =
    count_step (p a) a (filter p xs) ∙ ap (λ z. cond (p a) (pos 1) (pos 0) +ℤ z) (chosen-count p xs)

sum_step : (b : Bool) (f : Location → ℤ) (a : Location) (rest : List Location) →
    sum_of (map f (cond b (a ∷ rest) rest)) ≡ cond b (f a) (pos 0) +ℤ sum_of (map f rest)
sum_step true f a rest = refl
sum_step false f a rest = omega (arith, ints)

pub chosen-sum : (p : Location → Bool) (f : Location → ℤ) (xs : List Location) → sum_of (map f (filter p xs)) ≡ chosen p f xs
unfolding chosen
chosen-sum p f [] = refl
chosen-sum p f (a ∷ xs) =
    sum_step (p a) f a (filter p xs) ∙ ap (λ z. cond (p a) (f a) (pos 0) +ℤ z) (chosen-sum p f xs)

-- ---- by keys

pub sum_upto_none : (f : ℕ → ℤ) → sum_upto 0 f ≡ pos 0
unfolding sum_upto
sum_upto_none f = refl

pub sum_upto_more : (n m : ℕ) (f : ℕ → ℤ) → m ≡ n + 1 → sum_upto m f ≡ sum_upto n f +ℤ f n
unfolding sum_upto
sum_upto_more n m f is = rw (is, add-one) refl

pub sum_upto-same : (n : ℕ) (f g : ℕ → ℤ) → ((j : ℕ) → j < n → f j ≡ g j) → sum_upto n f ≡ sum_upto n g
unfolding sum_upto
sum_upto-same zero f g same = refl
sum_upto-same (suc n) f g same =
    ap₂ (λ y z. y +ℤ z) (sum_upto-same n f g (λ j below. same j (omega arith))) (same n (omega arith))

sum_upto-zeros : (n : ℕ) (f : ℕ → ℤ) → ((j : ℕ) → j < n → f j ≡ pos 0) → sum_upto n f ≡ pos 0
unfolding sum_upto
sum_upto-zeros zero f none = refl
sum_upto-zeros (suc n) f none =
    ap₂ (λ y z. y +ℤ z) (sum_upto-zeros n f (λ j below. none j (omega arith))) (none n (omega arith))

sum_upto-both : (n : ℕ) (f g : ℕ → ℤ) → sum_upto n (λ j. f j +ℤ g j) ≡ sum_upto n f +ℤ sum_upto n g
unfolding sum_upto
sum_upto-both zero f g = refl
sum_upto-both (suc n) f g =
    let ih : sum_upto n (λ j. f j +ℤ g j) ≡ sum_upto n f +ℤ sum_upto n g = sum_upto-both n f g in
    omega (arith, ints, ih)

-- of the terms for the keys from a base on, that of the key itself alone counts
pub other_keys : (n k base : ℕ) (h : ℕ → ℤ) → (k < base) ⊎ (base + n ≤ k) →
    sum_upto n (λ j. cond (nat_eq k (base + j)) (h j) (pos 0)) ≡ pos 0
other_keys n k base h out =
    sum_upto-zeros n (λ j. cond (nat_eq k (base + j)) (h j) (pos 0))
    (λ j below. ap (λ b. cond b (h j) (pos 0)) (ne_eqb k (base + j) (λ e. ⊎_elim (λ l. omega arith) (λ r. omega arith) out)))

pub own_key : (n k base : ℕ) (h : ℕ → ℤ) → base ≤ k → k < base + n →
    sum_upto n (λ j. cond (nat_eq k (base + j)) (h j) (pos 0)) ≡ h (k - base)
unfolding sum_upto
own_key zero k base h least most = absurd (omega arith)
own_key (suc n) k base h least most =
    ⊎_elim
    (λ early.
    let ih : sum_upto n (λ j. cond (nat_eq k (base + j)) (h j) (pos 0)) ≡ h (k - base) = own_key n k base h least early in
    let last : cond (nat_eq k (base + n)) (h n) (pos 0) ≡ pos 0 = ap (λ b. cond b (h n) (pos 0)) (ne_eqb k (base + n) (λ e. omega arith)) in
    omega (arith, ints, ih, last))
    (λ late.
    let same : k ≡ base + n = omega arith in
    let before : sum_upto n (λ j. cond (nat_eq k (base + j)) (h j) (pos 0)) ≡ pos 0 =
    other_keys n k base h (inr late) in
    let last : cond (nat_eq k (base + n)) (h n) (pos 0) ≡ h n = ap (λ b. cond b (h n) (pos 0)) (eq-eqb k (base + n) same) in
    let place : h n ≡ h (k - base) = ap h (omega arith) in
    omega (arith, ints, before, last, place))
    (cases_lt k (base + n))

-- a sum over the locations of a group is the sum over the keys of the group
pub chosen-group : (p : Location → Bool) (key : Location → ℕ) (base n : ℕ) (f : Location → ℤ) (g : ℕ → Location → ℤ) (xs : List Location) →
    ((a : Location) → cond (p a) (f a) (pos 0) ≡ sum_upto n (λ j. cond (nat_eq (key a) (base + j)) (g j a) (pos 0))) →
    chosen p f xs ≡ sum_upto n (λ j. chosen (has_key key (base + j)) (g j) xs)
unfolding chosen
chosen-group p key base n f g [] each = sym (sum_upto-zeros n (λ j. pos 0) (λ j below. refl))
chosen-group p key base n f g (a ∷ xs) each =
    ap₂ (λ y z. y +ℤ z) (each a) (chosen-group p key base n f g xs each)
    ∙ sym (sum_upto-both n (λ j. cond (nat_eq (key a) (base + j)) (g j a) (pos 0)) (λ j. chosen (has_key key (base + j)) (g j) xs))

-- q less twice c times a value, summed
pub chosen-linear : (t : Location → Bool) (v : Location → ℤ) (q c : ℤ) (xs : List Location) →
    chosen t (λ a. q -ℤ (pos 2 *ℤ (c *ℤ v a))) xs ≡
    (chosen t (λ a. pos 1) xs *ℤ q) -ℤ (pos 2 *ℤ (c *ℤ chosen t v xs))
unfolding chosen
chosen-linear t v q c [] = linear_none q c
  where
    linear_none : (q c : ℤ) → pos 0 ≡ (pos 0 *ℤ q) -ℤ (pos 2 *ℤ (c *ℤ pos 0))
    linear_none q c = omega (arith, ints)
chosen-linear t v q c (a ∷ xs) =
    step (t a) (v a) (chosen t (λ b. pos 1) xs) (chosen t v xs) (chosen t (λ b. q -ℤ (pos 2 *ℤ (c *ℤ v b))) xs) (chosen-linear t v q c xs)
  where
    step : (b : Bool) (z n s r : ℤ) → r ≡ (n *ℤ q) -ℤ (pos 2 *ℤ (c *ℤ s)) →
        cond b (q -ℤ (pos 2 *ℤ (c *ℤ z))) (pos 0) +ℤ r ≡
        ((cond b (pos 1) (pos 0) +ℤ n) *ℤ q) -ℤ (pos 2 *ℤ (c *ℤ (cond b z (pos 0) +ℤ s)))
    step true z n s r e = omega (arith, ints, e, sum_times q (pos 1) n, times_sum c z s)
    step false z n s r e = omega (arith, ints, e, sum_times q (pos 0) n, times_sum c (pos 0) s)
