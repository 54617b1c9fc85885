-- The first of least cost: with one candidate more, by two costs that are equal, and that what holds
-- of each candidate holds of it.
use Rattle.std.proofs.Common.{◌≡◌, ℕ, zero, suc, ◌<◌, Bool, true, false, cond, nat_lt, List, [], ◌∷◌, ◌++◌, refl, ap, ap₂, ◌∙◌, arith}
use Rattle.hv_lemmas.specs.Lists.{tabulate}
use Rattle.hv_filter_model.specs.Costs.{cheaper, first_least}

pub first_least_push : {A : Type 0} (f : A → ℕ) (x : A) (xs : List A) (y : A) →
    first_least f x (xs ++ y ∷ []) ≡ cheaper f (first_least f x xs) y
first_least_push f x [] y = refl
first_least_push f x (z ∷ xs) y = first_least_push f (cheaper f x z) xs y

pub first_least_same : {A : Type 0} (f g : A → ℕ) (x : A) (xs : List A) → ((y : A) → f y ≡ g y) →
    first_least f x xs ≡ first_least g x xs
first_least_same f g x [] same = refl
first_least_same f g x (y ∷ xs) same =
    ap (λ z. first_least f z xs) (ap₂ (λ a b. cond (nat_lt a b) y x) (same y) (same x)) ∙
    first_least_same f g (cheaper g x y) xs same

abbrev pub Each : {A : Type 0} → (A → Type 0) → List A → Type 0
Each P [] = Unit {0}
Each P (x ∷ xs) = P x × Each P xs

cond_keeps : {A : Type 0} (P : A → Type 0) (b : Bool) (x y : A) → P x → P y → P (cond b x y)
cond_keeps P true x y h k = h
cond_keeps P false x y h k = k

pub first_least_keeps : {A : Type 0} (P : A → Type 0) (f : A → ℕ) (x : A) (xs : List A) → P x →
    Each P xs → P (first_least f x xs)
first_least_keeps P f x [] h each = h
first_least_keeps P f x (y ∷ xs) h each =
    first_least_keeps P f (cheaper f x y) xs (cond_keeps P (nat_lt (f y) (f x)) y x each.0 h) each.1

pub each_tabulate : {A : Type 0} (P : A → Type 0) (n : ℕ) (f : ℕ → A) →
    ((i : ℕ) → i < n → P (f i)) → Each P (tabulate n f)
unfolding tabulate
each_tabulate P zero f h = tt
each_tabulate P (suc n) f h =
    (h 0 (omega arith), each_tabulate P n (λ i. f (suc i)) (λ i below. h (suc i) (omega arith)))

pub each_append : {A : Type 0} (P : A → Type 0) (xs ys : List A) → Each P xs → Each P ys →
    Each P (xs ++ ys)
each_append P [] ys h k = k
each_append P (x ∷ xs) ys h k = (h.0, each_append P xs ys h.1 k)
