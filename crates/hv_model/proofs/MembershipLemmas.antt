-- Numbers that stand in lists: by a test, and for reference picture sets (8.3.2).
use Rattle.std.proofs.Common.{◌≡◌, ℕ, zero, suc, ◌+◌, ◌<◌, ◌≤◌, Bool, true, false, List, [], ◌∷◌, ◌++◌, refl, sym, ap, ◌∙◌, arith, inl, inr, eq-eqb, eqb-true}
use Rattle.std.specs.Prelude.{◌⊎◌, ◌||◌, nat_eq, cond, filter}
use Rattle.std.specs.List.{list_any}
use Rattle.std.proofs.lemmas.Bool.{or_right, false≢true, cases_Bool}
use Rattle.std.proofs.lemmas.Bool.Decides.{nat_tests}
use Rattle.std.proofs.lemmas.List.Folds.{list_any-append}
use Rattle.hv_group_model.specs.Structure.{falling, rising}

-- ---- truth values

pub either : (x y : Bool) → (x || y) ≡ true → (x ≡ true) ⊎ (y ≡ true)
either true y e = inl refl
either false y e = inr e

pub or_left : (x y : Bool) → x ≡ true → (x || y) ≡ true
or_left true y e = refl
or_left false y e = absurd cc

-- ---- numbers in lists

abbrev pub Among : ℕ → List ℕ → Type 0
Among n numbers = list_any (nat_eq n) numbers ≡ true

abbrev pub AllAmong : List ℕ → List ℕ → Type 0
AllAmong some numbers = (n : ℕ) → Among n some → Among n numbers

pub among_first : (n : ℕ) (numbers : List ℕ) → Among n (n ∷ numbers)
among_first n numbers = or_left (nat_eq n n) (list_any (nat_eq n) numbers) (eq-eqb n n refl)

pub among_behind : (n m : ℕ) (numbers : List ℕ) → Among n numbers → Among n (m ∷ numbers)
among_behind n m numbers h = or_right (nat_eq n m) (list_any (nat_eq n) numbers) h

pub among_left : (n : ℕ) (a b : List ℕ) → Among n a → Among n (a ++ b)
among_left n a b h =
    list_any-append (nat_eq n) a b ∙
    or_left (list_any (nat_eq n) a) (list_any (nat_eq n) b) h

pub among_right : (n : ℕ) (a b : List ℕ) → Among n b → Among n (a ++ b)
among_right n a b h =
    list_any-append (nat_eq n) a b ∙
    or_right (list_any (nat_eq n) a) (list_any (nat_eq n) b) h

pub among_parts : (n : ℕ) (a b : List ℕ) → Among n (a ++ b) → Among n a ⊎ Among n b
among_parts n a b h =
    either (list_any (nat_eq n) a) (list_any (nat_eq n) b)
    (sym (list_any-append (nat_eq n) a b) ∙ h)

-- ---- those that pass a test

passes_case : (p : ℕ → Bool) (n x : ℕ) (xs : List ℕ) (t : Bool) → p x ≡ t →
    (Among n (filter p xs) → p n ≡ true) → Among n (cond t (x ∷ filter p xs) (filter p xs)) →
    p n ≡ true
passes_case p n x xs true e rest h =
    elim (either (nat_eq n x) (list_any (nat_eq n) (filter p xs)) h) as (λ _. p n ≡ true) [
      | inl here ↦ ap p (eqb-true n x here) ∙ e
      | inr there ↦ rest there
    ]
passes_case p n x xs false e rest h = rest h

pub among_passes : (p : ℕ → Bool) (n : ℕ) (xs : List ℕ) → Among n (filter p xs) → p n ≡ true
among_passes p n [] h = absurd cc
among_passes p n (x ∷ xs) h = passes_case p n x xs (p x) refl (among_passes p n xs) h

stays_case : (p : ℕ → Bool) (n x : ℕ) (xs : List ℕ) (t : Bool) → p x ≡ t → p n ≡ true →
    (Among n xs → Among n (filter p xs)) → Among n (x ∷ xs) →
    Among n (cond t (x ∷ filter p xs) (filter p xs))
stays_case p n x xs true e passes rest h =
    elim (either (nat_eq n x) (list_any (nat_eq n) xs) h)
    as (λ _. Among n (x ∷ filter p xs)) [
      | inl here ↦ or_left (nat_eq n x) (list_any (nat_eq n) (filter p xs)) here
      | inr there ↦ among_behind n x (filter p xs) (rest there)
    ]
stays_case p n x xs false e passes rest h =
    elim (either (nat_eq n x) (list_any (nat_eq n) xs) h) as (λ _. Among n (filter p xs)) [
      | inl here ↦ absurd (false≢true (sym (sym passes ∙ ap p (eqb-true n x here) ∙ e)))
      | inr there ↦ rest there
    ]

pub among_stays : (p : ℕ → Bool) (n : ℕ) (xs : List ℕ) → p n ≡ true → Among n xs →
    Among n (filter p xs)
among_stays p n [] passes h = absurd cc
among_stays p n (x ∷ xs) passes h =
    stays_case p n x xs (p x) refl passes (among_stays p n xs passes) h

-- ---- ranges

pub among_falling : (n m : ℕ) → n < m → Among n (falling m)
among_falling n zero h = absurd (omega arith)
among_falling n (suc m) h = elim (cases_Bool (nat_eq n m)) as (λ _. Among n (falling (suc m))) [
  | inl here ↦ or_left (nat_eq n m) (list_any (nat_eq n) (falling m)) here
  | inr apart ↦ among_behind n m (falling m) (among_falling n m (below n m h apart))
]
  where
    below : (n m : ℕ) → n < suc m → nat_eq n m ≡ false → n < m
    below n m h apart = grind (arith, nat_tests)

pub among_rising : (n m from : ℕ) → from ≤ n → n < from + m → Among n (rising m from)
among_rising n zero from low high = absurd (omega arith)
among_rising n (suc m) from low high =
    elim (cases_Bool (nat_eq n from)) as (λ _. Among n (rising (suc m) from)) [
      | inl here ↦ or_left (nat_eq n from) (list_any (nat_eq n) (rising m (from + 1))) here
      | inr apart ↦ among_behind n from (rising m (from + 1))
          (among_rising n m (from + 1) (above n from low apart) (omega arith))
    ]
  where
    above : (n from : ℕ) → from ≤ n → nat_eq n from ≡ false → from + 1 ≤ n
    above n from low apart = grind (arith, nat_tests)
