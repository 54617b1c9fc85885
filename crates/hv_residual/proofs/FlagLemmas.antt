-- What the loops over the flags of a sub-block (7.3.8.11) put, step by step.
use Rattle.std.proofs.Common.{◌≡◌, ◌≤◌, ◌<◌, ◌-◌, ◌+◌, List, [], ◌∷◌, ℕ, zero, suc, Bool, false, nat_lt, arith, subst, sym, refl, length, drop, get_or, drop-cons, add-one, drop_of_length-le}
use Rattle.hv_lemmas.proofs.ComparisonLemmas.{lt_below, lt_not_below}
use Rattle.hv_residual_model.specs.UnitBins.{InBypass, unit_bin}
use Rattle.hv_residual_model.specs.ResidualContexts.{TransformBlock, next_greater1Ctx, greater1_at}
use Rattle.hv_residual_model.specs.ResidualBins.{greater1_bins, first_above_1, sign_bins}

pub split_at : {A : Type 0} (xs : List A) (i : ℕ) (d : A) → i < length xs →
    drop i xs ≡ get_or xs i d ∷ drop (i + 1) xs
split_at xs i d h = rw (add-one, drop-cons xs i d) refl

pub first_flag : (b : TransformBlock) (set k : ℕ) (ms : List ℕ) (i p : ℕ) → 0 < k → i < length ms →
    greater1_bins b set k (drop i ms) p ≡
    unit_bin (greater1_at b set p) (nat_lt 1 (get_or ms i 0)) ∷
    greater1_bins b set (k - 1) (drop (i + 1) ms) (next_greater1Ctx p (nat_lt 1 (get_or ms i 0)))
unfolding greater1_bins
first_flag b set k ms i p h j =
    let d : drop i ms ≡ get_or ms i 0 ∷ drop (i + 1) ms = split_at ms i 0 j in
    let e : k ≡ suc (k - 1) = omega arith in
    rw d (subst (λ (n : ℕ). greater1_bins b set n (get_or ms i 0 ∷ drop (i + 1) ms) p ≡
    unit_bin (greater1_at b set p) (nat_lt 1 (get_or ms i 0)) ∷
    greater1_bins b set (k - 1) (drop (i + 1) ms) (next_greater1Ctx p (nat_lt 1 (get_or ms i 0))))
    (sym e) refl)

pub none_left : (b : TransformBlock) (set k : ℕ) (ms : List ℕ) (i p : ℕ) → length ms ≤ i →
    greater1_bins b set k (drop i ms) p ≡ []
unfolding greater1_bins
none_left b set zero ms i p e = refl
none_left b set (suc k) ms i p e = let d : drop i ms ≡ [] = drop_of_length-le ms e in rw d refl

pub no_more : (b : TransformBlock) (set k : ℕ) (ms : List ℕ) (p : ℕ) → k ≡ 0 →
    greater1_bins b set k ms p ≡ []
unfolding greater1_bins
no_more b set k ms p e = rw e refl

-- ---- the first magnitude above 1
pub none_above : (k : ℕ) (ms : List ℕ) → k ≡ 0 → first_above_1 k ms ≡ 0
none_above k ms e = rw e refl

pub end_above : (k : ℕ) (ms : List ℕ) (i : ℕ) → length ms ≤ i → first_above_1 k (drop i ms) ≡ 0
end_above zero ms i h = refl
end_above (suc k) ms i h = let d : drop i ms ≡ [] = drop_of_length-le ms h in rw d refl

pub above : (k : ℕ) (ms : List ℕ) (i : ℕ) → 0 < k → i < length ms → 1 < get_or ms i 0 →
    first_above_1 k (drop i ms) ≡ get_or ms i 0
above zero ms i h j l = absurd (omega arith)
above (suc k) ms i h j l =
    let d : drop i ms ≡ get_or ms i 0 ∷ drop (i + 1) ms = split_at ms i 0 j in
    rw d (rw (lt_below 1 (get_or ms i 0) l) refl)

pub not_above : (k : ℕ) (ms : List ℕ) (i : ℕ) → 0 < k → i < length ms → get_or ms i 0 ≤ 1 →
    first_above_1 k (drop i ms) ≡ first_above_1 (k - 1) (drop (i + 1) ms)
not_above zero ms i h j l = absurd (omega arith)
not_above (suc k) ms i h j l =
    let d : drop i ms ≡ get_or ms i 0 ∷ drop (i + 1) ms = split_at ms i 0 j in
    let e : suc k - 1 ≡ k = omega arith in
    rw (d, e) (rw (lt_not_below 1 (get_or ms i 0) l) refl)

-- ---- signs
pub first_sign : (signs : List Bool) (i : ℕ) → i < length signs →
    sign_bins (drop i signs) ≡
    unit_bin InBypass (get_or signs i false) ∷ sign_bins (drop (i + 1) signs)
first_sign signs i h =
    let d : drop i signs ≡ get_or signs i false ∷ drop (i + 1) signs = split_at signs i false h in
    rw d refl

pub no_sign : (signs : List Bool) (i : ℕ) → length signs ≤ i → sign_bins (drop i signs) ≡ []
no_sign signs i h = let d : drop i signs ≡ [] = drop_of_length-le signs h in rw d refl
