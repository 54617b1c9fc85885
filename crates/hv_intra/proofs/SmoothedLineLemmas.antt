-- Filtered neighbours, one by one.
use Rattle.std.proofs.Common.{◌≡◌, ℕ, zero, suc, ◌+◌, ◌-◌, ◌*◌, ◌/◌, ◌<◌, ◌≤◌, List, [], ◌∷◌, length, get_or, refl, arith, sym, subst, ◌∙◌, inl, inr}
use Rattle.std.specs.Prelude.{◌⊎◌}
use Rattle.std.proofs.lemmas.Bool.{cases_order}
use Rattle.std.proofs.lemmas.List.{ext_get_or}
use Rattle.hv_sample_model.specs.IntraPrediction.{smoothed, smoothed_behind}
use Rattle.hv_intra.specs.Lines.{weighted_at}

length-smoothed_behind : (before : ℕ) (line : List ℕ) → length (smoothed_behind before line) ≡ length line
length-smoothed_behind before [] = refl
length-smoothed_behind before (p ∷ []) = refl
length-smoothed_behind before (p ∷ next ∷ line) = omega (arith, length-smoothed_behind p (next ∷ line))

pub length-smoothed : (line : List ℕ) → length (smoothed line) ≡ length line
length-smoothed [] = refl
length-smoothed (first ∷ line) = omega (arith, length-smoothed_behind first line)

inside_behind : (before : ℕ) (line : List ℕ) (i : ℕ) → i + 1 < length line →
    get_or (smoothed_behind before line) i 0 ≡
    (get_or (before ∷ line) i 0 + 2 * get_or line i 0 + get_or line (i + 1) 0 + 2) / 4
inside_behind before [] i inside = absurd (omega arith)
inside_behind before (p ∷ []) i inside = absurd (omega arith)
inside_behind before (p ∷ next ∷ line) zero inside = refl
inside_behind before (p ∷ next ∷ line) (suc i) inside =
    let e : suc i + 1 ≡ suc (i + 1) = omega arith in
    rw e (inside_behind p (next ∷ line) i (omega arith))

last_behind : (before : ℕ) (line : List ℕ) (i : ℕ) → i + 1 ≡ length line →
    get_or (smoothed_behind before line) i 0 ≡ get_or line i 0
last_behind before [] i end = absurd (omega arith)
last_behind before (p ∷ []) zero end = refl
last_behind before (p ∷ []) (suc i) end = absurd (omega arith)
last_behind before (p ∷ next ∷ line) zero end = absurd (omega arith)
last_behind before (p ∷ next ∷ line) (suc i) end = last_behind p (next ∷ line) i (omega arith)

smoothed_inside : (line : List ℕ) (i : ℕ) → 1 ≤ i → i + 1 < length line →
    get_or (smoothed line) i 0 ≡ weighted_at line i
smoothed_inside [] i least most = absurd (omega arith)
smoothed_inside (first ∷ line) zero least most = absurd (omega arith)
smoothed_inside (first ∷ line) (suc i) least most =
    let e : suc i + 1 ≡ suc (i + 1) = omega arith in
    let f : suc i - 1 ≡ i = omega arith in
    rw (e, f) (inside_behind first line i (omega arith))

smoothed_first : (line : List ℕ) → get_or (smoothed line) 0 0 ≡ get_or line 0 0
smoothed_first [] = refl
smoothed_first (first ∷ line) = refl

smoothed_last : (line : List ℕ) (i : ℕ) → i + 1 ≡ length line → get_or (smoothed line) i 0 ≡ get_or line i 0
smoothed_last [] i end = absurd (omega arith)
smoothed_last (first ∷ line) zero end = refl
smoothed_last (first ∷ line) (suc i) end = last_behind first line i (omega arith)

-- a list with each of them is the filtered line
pub smoothed_from_places : (line out : List ℕ) → 2 ≤ length line → length out ≡ length line →
    get_or out 0 0 ≡ get_or line 0 0 →
    ((i : ℕ) → 1 ≤ i → i < length line - 1 → get_or out i 0 ≡ weighted_at line i) →
    get_or out (length line - 1) 0 ≡ get_or line (length line - 1) 0 → out ≡ smoothed line
smoothed_from_places line out some long first inner last =
    ext_get_or 0 out (smoothed line) (omega (arith, length-smoothed line)) (λ i below. place i below)
  where
    later : (i : ℕ) → 1 ≤ i → i < length line →
        (i ≡ length line - 1) ⊎ ((i < length line - 1) ⊎ (length line - 1 < i)) →
        get_or out i 0 ≡ get_or (smoothed line) i 0
    later i least below (inl e) =
        subst (λ k. get_or out k 0 ≡ get_or (smoothed line) k 0) (sym e)
        (last ∙ sym (smoothed_last line (length line - 1) (omega arith)))
    later i least below (inr (inl h)) =
        inner i least h ∙ sym (smoothed_inside line i least (omega arith))
    later i least below (inr (inr h)) = absurd (omega arith)

    place : (i : ℕ) → i < length out → get_or out i 0 ≡ get_or (smoothed line) i 0
    place zero below = first ∙ sym (smoothed_first line)
    place (suc i) below = later (suc i) (omega arith) (omega arith) (cases_order (suc i) (length line - 1))
