-- Whether one of some numbers isn't 0.
use Rattle.std.proofs.Common.{Bool, List, [], ap, ap₂, arith, cond, drop, false, length, map, nat_eq, nat_lt, negsuc, pos, refl, replicate, suc, sym, take, take-add, true, zero, ℕ, ℤ, ◌%◌, ◌*◌, ◌+◌, ◌-◌, ◌<◌, ◌||◌, ◌∙◌, ◌∷◌, ◌≡◌, ◌≤◌}
use lib.Lanes.{mask_l, top, zip2}
use borrow.Rule.Simd.Lanes.{act2}
use borrow.Table.Row.{s_int}
use mir.Syntax.{mask, ne, w16}
use mir.Val.{SFits, of_z}
use Rattle.std.proofs.lemmas.Bool.{or_parts}
use Rattle.std.proofs.lemmas.Bool.Decides.{nat_tests}
use Rattle.hv_lanes.specs.Ranges.{is_other_than_0}
use Rattle.std.specs.Prelude.{not}
use Rattle.std.specs.List.{list_any}
use Rattle.hv_lanes.specs.Lanes.{Numbers, at}
use Rattle.std.proofs.lemmas.Simd.{mask_l-mod}
use Rattle.std.proofs.lemmas.List.{take-append-drop}
use Rattle.hv_lanes.proofs.PartLemmas.{at_part}
use Rattle.std.proofs.lemmas.List.Folds.{list_any-append}
use Rattle.hv_lemmas.proofs.ComparisonLemmas.{or_true}

-- what the lanes say of whether a level isn't 0
abbrev pub marks : ℕ → List ℤ → List Bool
marks n xs = map (top 15) (zip2 (act2 (mask ne) (s_int w16) (s_int w16) (s_int w16)) (map (of_z w16) xs) (replicate n 0))

mark_of : (z : ℤ) → SFits w16 z → top 15 (act2 (mask ne) (s_int w16) (s_int w16) (s_int w16) (of_z w16 z) 0) ≡ is_other_than_0 z
mark_of (pos zero) f = refl
mark_of (pos (suc n)) f =
    let no : nat_eq (suc n) 0 ≡ false = grind (arith, nat_tests) in
    let yes : nat_lt 0 (suc n) ≡ true = grind (arith, nat_tests) in
    rw (no, yes) refl
mark_of (negsuc n) f =
    let no : nat_eq (65536 - suc n) 0 ≡ false = grind (arith, nat_tests, f) in
    let yes : nat_lt 0 (suc n) ≡ true = grind (arith, nat_tests) in
    rw (no, yes) refl

either : (b : Bool) (m : ℕ) → not (nat_eq (cond b 1 0 + 2 * m) 0) ≡ (b || not (nat_eq m 0))
either true m =
    let no : nat_eq (1 + 2 * m) 0 ≡ false = grind (arith, nat_tests) in
    rw no refl
either false zero = refl
either false (suc m) =
    let no : nat_eq (0 + 2 * suc m) 0 ≡ false = grind (arith, nat_tests) in
    let never : nat_eq (suc m) 0 ≡ false = grind (arith, nat_tests) in
    rw (no, never) refl

any_marked : (n : ℕ) (xs : List ℤ) → length xs ≡ n → Numbers xs → not (nat_eq (mask_l (marks n xs)) 0) ≡ list_any is_other_than_0 xs
any_marked zero [] l f = refl
any_marked zero (x ∷ xs) l f = absurd (omega arith)
any_marked (suc n) [] l f = absurd (omega arith)
any_marked (suc n) (x ∷ xs) l f =
    either _ (mask_l (marks n xs)) ∙ ap₂ (λ a b. a || b) (mark_of x (f 0)) (any_marked n xs (omega arith) (λ k. f (suc k)))

length-marks : (n : ℕ) (xs : List ℤ) → length (marks n xs) ≤ n
length-marks zero [] = omega arith
length-marks zero (x ∷ xs) = omega arith
length-marks (suc n) [] = omega arith
length-marks (suc n) (x ∷ xs) = omega (arith, length-marks n xs)

pub any_is : (xs : List ℤ) → length xs ≡ 8 → Numbers xs → not (nat_eq (mask_l (marks 8 xs) % 18446744073709551616) 0) ≡ list_any is_other_than_0 xs
any_is xs l f =
    ap (λ m. not (nat_eq m 0)) (mask_l-mod (marks 8 xs) 64 (omega (arith, length-marks 8 xs))) ∙ any_marked 8 xs l f

-- whether one of many passes a test
pub any_part : (p : ℤ → Bool) (a m : ℕ) (xs : List ℤ) → list_any p (take m (drop a xs)) ≡ true → list_any p xs ≡ true
any_part p a m xs h =
    let rest : list_any p (drop a xs) ≡ true =
    sym (ap (list_any p) (take-append-drop m (drop a xs))) ∙ list_any-append p (take m (drop a xs)) (drop m (drop a xs)) ∙ ap (λ b. b || list_any p (drop m (drop a xs))) h in
    sym (ap (list_any p) (take-append-drop a xs)) ∙ list_any-append p (take a xs) (drop a xs) ∙ ap (λ b. list_any p (take a xs) || b) rest ∙ or_true (list_any p (take a xs))

pub any_at : (p : ℤ → Bool) (i : ℕ) (xs : List ℤ) → i < length xs → p (at xs i) ≡ true → list_any p xs ≡ true
any_at p i [] inside h = absurd (omega (arith, inside))
any_at p zero (x ∷ xs) inside h = ap (λ b. b || list_any p xs) h
any_at p (suc i) (x ∷ xs) inside h = ap (λ b. p x || b) (any_at p i xs (omega (arith, inside)) h) ∙ or_true (p x)

-- none of some more
pub none_more : (p : ℤ → Bool) (a m : ℕ) (xs : List ℤ) → a ≤ length xs → list_any p (take a xs) ≡ false → list_any p (take m (drop a xs)) ≡ false → list_any p (take (a + m) xs) ≡ false
none_more p a m xs inside old new =
    ap (list_any p) (take-add a m xs) ∙ list_any-append p (take a xs) (take m (drop a xs)) ∙ ap₂ (λ b c. b || c) old new

pub none_next : (p : ℤ → Bool) (i : ℕ) (xs : List ℤ) → i < length xs → list_any p (take i xs) ≡ false → p (at xs i) ≡ false → list_any p (take (i + 1) xs) ≡ false
none_next p i [] inside old new = absurd (omega (arith, inside))
none_next p zero (x ∷ xs) inside old new = ap (λ b. b || false) new
none_next p (suc i) (x ∷ xs) inside old new =
    let more : suc i + 1 ≡ suc (i + 1) = omega arith in
    let first : p x ≡ false = first_false (p x) (list_any p (take i xs)) old in
    let rest : list_any p (take i xs) ≡ false = sym (ap (λ b. b || list_any p (take i xs)) first) ∙ old in
    ap (λ n. list_any p (take n (x ∷ xs))) more ∙ ap₂ (λ b c. b || c) first (none_next p i xs (omega (arith, inside)) rest new)
  where
    first_false : (b c : Bool) → (b || c) ≡ false → b ≡ false
    first_false true c h = h
    first_false false c h = refl

-- where none is other than 0, all are 0
zero_is : (z : ℤ) → is_other_than_0 z ≡ false → z ≡ pos 0
zero_is (pos zero) h = refl
zero_is (pos (suc n)) h = grind (arith, nat_tests, h)
zero_is (negsuc n) h = grind (arith, nat_tests, h)

pub none_other : (xs : List ℤ) → list_any is_other_than_0 xs ≡ false → (k : ℕ) → at xs k ≡ pos 0
none_other [] h k = refl
none_other (x ∷ xs) h zero = zero_is x (or_parts _ _ h).0
none_other (x ∷ xs) h (suc k) = none_other xs (or_parts _ _ h).1 k

-- the same of a part
pub part_of_0 : (a m : ℕ) (xs : List ℤ) → list_any is_other_than_0 (take m (drop a xs)) ≡ false → (i : ℕ) → a ≤ i → i < a + m → at xs i ≡ pos 0
part_of_0 a m xs h i low high =
    let here : a + (i - a) ≡ i = omega (arith, low) in
    ap (at xs) (sym here) ∙ sym (at_part a m (i - a) xs (omega (arith, low, high))) ∙ none_other (take m (drop a xs)) h (i - a)
