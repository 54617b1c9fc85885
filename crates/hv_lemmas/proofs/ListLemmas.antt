-- Lists: those made from a function of the place, how long they are, what stands where, and when two
-- are one.
use Rattle.std.proofs.Common.{◌≡◌, ℕ, zero, suc, ◌+◌, ◌-◌, ◌<◌, ◌≤◌, List, [], ◌∷◌, ◌++◌, length, take, drop, map, get_or, refl, sym, ap, ap₂, ◌∙◌, arith}
use Rattle.std.proofs.lemmas.List.{drop-take, take-take}
use Rattle.std.specs.Prelude.{slice_get, Some}
use Rattle.hv_lemmas.specs.Lists.{tabulate}

pub length-tabulate : {A : Type 0} (n : ℕ) (f : ℕ → A) → length (tabulate n f) ≡ n
unfolding tabulate
length-tabulate zero f = refl
length-tabulate (suc n) f = ap suc (length-tabulate n (λ i. f (suc i)))

pub get_or-tabulate : {A : Type 0} (n i : ℕ) (f : ℕ → A) (d : A) → i < n → get_or (tabulate n f) i
    d ≡ f i
unfolding tabulate
get_or-tabulate zero i f d below = absurd (omega arith)
get_or-tabulate (suc n) zero f d below = refl
get_or-tabulate (suc n) (suc i) f d below = get_or-tabulate n i (λ k. f (suc k)) d (omega arith)

-- two functions that agree below n
pub tabulate-same : {A : Type 0} (n : ℕ) (f g : ℕ → A) → ((i : ℕ) → i < n → f i ≡ g i) → tabulate n
    f ≡ tabulate n g
unfolding tabulate
tabulate-same zero f g same = refl
tabulate-same (suc n) f g same =
    let first : f 0 ≡ g 0 = same 0 (omega arith) in
    let later : tabulate n (λ i. f (suc i)) ≡ tabulate n (λ i. g (suc i)) =
    tabulate-same n (λ i. f (suc i)) (λ i. g (suc i)) (λ i below. same (suc i) (omega arith)) in
    cc

-- one value more
pub tabulate_push : {A : Type 0} (n : ℕ) (f : ℕ → A) → tabulate (suc n) f ≡ tabulate n f ++ f n ∷ []
unfolding tabulate
tabulate_push zero f = refl
tabulate_push (suc n) f = ap (λ t. f 0 ∷ t) (tabulate_push n (λ i. f (suc i)))

-- a list is made from its own elements
pub tabulate_own : {A : Type 0} (xs : List A) (d : A) → tabulate (length xs)
    (λ i. get_or xs i d) ≡ xs
unfolding tabulate
tabulate_own [] d = refl
tabulate_own (x ∷ xs) d = ap (λ t. x ∷ t) (tabulate_own xs d)

-- ---- what stands in a place

-- what stands in the list stands in its front
pub got_before : {A : Type 0} (n : ℕ) (xs : List A) (i : ℕ) → i < n →
    slice_get (take n xs) i ≡ slice_get xs i
got_before zero xs i below = absurd (omega (arith, below))
got_before (suc n) [] i below = refl
got_before (suc n) (x ∷ xs) zero below = refl
got_before (suc n) (x ∷ xs) (suc i) below = got_before n xs i (omega (arith, below))

-- two lists that begin alike
pub get_before : {A : Type 0} (n : ℕ) (xs ys : List A) (i : ℕ) → i < n →
    take n xs ≡ take n ys → slice_get xs i ≡ slice_get ys i
get_before n xs ys i below same =
    sym (got_before n xs i below) ∙ ap (λ l. slice_get l i) same ∙ got_before n ys i below

pub there_is : {A : Type 0} (xs : List A) (k : ℕ) → k < length xs →
    (x : A) × (slice_get xs k ≡ Some x)
there_is [] k h = absurd (omega (arith, h))
there_is (x ∷ xs) zero h = (x, refl)
there_is (x ∷ xs) (suc k) h = there_is xs k (omega (arith, h))

-- ---- functions that agree

pub maps_same : {A B : Type 0} (f g : A → B) (xs : List A) → ((x : A) → f x ≡ g x) →
    map f xs ≡ map g xs
maps_same f g [] same = refl
maps_same f g (x ∷ xs) same = ap₂ (λ y ys. y ∷ ys) (same x) (maps_same f g xs same)

-- a part of the front of a list is one of the list
pub part_of_front : {A : Type 0} (j c n : ℕ) (xs : List A) → j + c ≤ n →
    take c (drop j (take n xs)) ≡ take c (drop j xs)
part_of_front j c n xs inside =
    let rest : ℕ = n - j in
    let whole : n ≡ j + rest = omega (arith, inside) in
    ap (λ (m : ℕ). take c (drop j (take m xs))) whole ∙
    ap (take c) (drop-take j rest xs) ∙
    take-take c rest (drop j xs) (omega (arith, inside))
