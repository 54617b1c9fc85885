-- What the loop over the remaining levels of a sub-block (7.3.8.11) puts, step by step.
use Rattle.std.proofs.Common.{◌≡◌, ◌≤◌, ◌<◌, ◌-◌, ◌+◌, List, [], ◌∷◌, ◌++◌, ℕ, zero, suc, Bool, true, false, cond, nat_lt, arith, subst, sym, refl, ap, ◌∙◌, length, drop, get_or, drop_of_length-le}
use Rattle.hv_residual_model.specs.UnitBins.{UnitBin}
use Rattle.hv_residual_model.specs.Binarization.{remaining_bins}
use Rattle.hv_residual_model.specs.ResidualSyntax.{Base, base, bases, next_cRiceParam}
use Rattle.hv_residual_model.specs.ResidualBins.{greater1_values, all_remaining_bins}
use Rattle.hv_residual.specs.Levels.{base_at, first_at, one_remaining_bins}
use Rattle.hv_residual.proofs.FlagLemmas.{split_at}

-- one level off the front
bases_case : (left : ℕ) (first g : Bool) (m : ℕ) (ms : List ℕ) (f : Bool) → nat_lt 1 m ≡ f →
    bases first g (greater1_values left (m ∷ ms)) (suc (length ms)) ≡
    base_at left first g f ∷
    bases (first_at left first f) g (greater1_values (left - 1) ms) (length ms)
bases_case zero first g m ms f e = refl
bases_case (suc k) first g m ms false e = let d : suc k - 1 ≡ k = omega arith in rw (e, d) refl
bases_case (suc k) true g m ms true e = let d : suc k - 1 ≡ k = omega arith in rw (e, d) refl
bases_case (suc k) false g m ms true e = let d : suc k - 1 ≡ k = omega arith in rw (e, d) refl

-- the bases of the levels that are left
abbrev pub here : ℕ → Bool → Bool → List ℕ → List Base
here left first g ms = bases first g (greater1_values left ms) (length ms)

open_case : (b : Base) (bs : List Base) (m : ℕ) (ms : List ℕ) (k : ℕ) (o : Bool) →
    b.has_remaining ≡ o → all_remaining_bins (b ∷ bs) (m ∷ ms) k ≡
    one_remaining_bins b.has_remaining k (m - b.baseLevel) ++
    all_remaining_bins bs ms (cond b.has_remaining (next_cRiceParam k m) k)
unfolding one_remaining_bins
open_case b bs m ms k true e = rw e refl
open_case b bs m ms k false e = rw e refl

next_level : (left : ℕ) (first g : Bool) (ms : List ℕ) (i k : ℕ) → i < length ms →
    (let m = get_or ms i 0 in
    let b = base_at left first g (nat_lt 1 m) in
    all_remaining_bins (here left first g (drop i ms)) (drop i ms) k ≡
    one_remaining_bins b.has_remaining k (m - b.baseLevel) ++
    all_remaining_bins (here (left - 1) (first_at left first (nat_lt 1 m)) g (drop (i + 1) ms))
    (drop (i + 1) ms) (cond b.has_remaining (next_cRiceParam k m) k))
next_level left first g ms i k h =
    let m : ℕ = get_or ms i 0 in
    let r : List ℕ = drop (i + 1) ms in
    let d : drop i ms ≡ m ∷ r = split_at ms i 0 h in
    let b = base_at left first g (nat_lt 1 m) in
    subst (λ (xs : List ℕ). all_remaining_bins (here left first g xs) xs k ≡
    one_remaining_bins b.has_remaining k (m - b.baseLevel) ++
    all_remaining_bins (here (left - 1) (first_at left first (nat_lt 1 m)) g r) r
    (cond b.has_remaining (next_cRiceParam k m) k)) (sym d)
    (ap (λ (bs : List Base). all_remaining_bins bs (m ∷ r) k)
    (bases_case left first g m r (nat_lt 1 m) refl) ∙
    open_case b (here (left - 1) (first_at left first (nat_lt 1 m)) g r) m r k b.has_remaining refl)

pub no_level : (left : ℕ) (first g : Bool) (ms : List ℕ) (i k : ℕ) → length ms ≤ i →
    all_remaining_bins (here left first g (drop i ms)) (drop i ms) k ≡ []
no_level left first g ms i k h =
    let d : drop i ms ≡ [] = drop_of_length-le ms h in
    subst (λ (xs : List ℕ). all_remaining_bins (here left first g xs) xs k ≡ []) (sym d)
    (nothing_left left first g k)
  where
    nothing_left : (left : ℕ) (first g : Bool) (k : ℕ) →
        all_remaining_bins (here left first g []) [] k ≡ []
    nothing_left zero first g k = refl
    nothing_left (suc n) first g k = refl

-- the same by the values that the code computed
pub level_step : (ms : List ℕ) (i k left m l next rice : ℕ) (first g o later : Bool) →
    i < length ms → m ≡ get_or ms i 0 → base l o ≡ base_at left first g (nat_lt 1 m) →
    next ≡ left - 1 → later ≡ first_at left first (nat_lt 1 m) →
    rice ≡ cond o (next_cRiceParam k m) k →
    all_remaining_bins (here left first g (drop i ms)) (drop i ms) k ≡
    one_remaining_bins o k (m - l) ++
    all_remaining_bins (here next later g (drop (i + 1) ms)) (drop (i + 1) ms) rice
level_step ms i k left m l next rice first g o later h em eb en el er =
    let From : List UnitBin = all_remaining_bins (here left first g (drop i ms)) (drop i ms) k in
    let r : List ℕ = drop (i + 1) ms in
    let n = next_level left first g ms i k h in
    let n2 : From ≡
    one_remaining_bins (base_at left first g (nat_lt 1 m)).has_remaining k
    (m - (base_at left first g (nat_lt 1 m)).baseLevel) ++
    all_remaining_bins (here (left - 1) (first_at left first (nat_lt 1 m)) g r) r
    (cond (base_at left first g (nat_lt 1 m)).has_remaining (next_cRiceParam k m) k) =
    subst (λ (x : ℕ). From ≡
    one_remaining_bins (base_at left first g (nat_lt 1 x)).has_remaining k
    (x - (base_at left first g (nat_lt 1 x)).baseLevel) ++
    all_remaining_bins (here (left - 1) (first_at left first (nat_lt 1 x)) g r) r
    (cond (base_at left first g (nat_lt 1 x)).has_remaining (next_cRiceParam k x) k)) (sym em) n in
    let n3 : From ≡ one_remaining_bins o k (m - l) ++
    all_remaining_bins (here (left - 1) (first_at left first (nat_lt 1 m)) g r) r
    (cond o (next_cRiceParam k m) k) =
    subst (λ (b : Base). From ≡ one_remaining_bins b.has_remaining k (m - b.baseLevel) ++
    all_remaining_bins (here (left - 1) (first_at left first (nat_lt 1 m)) g r) r
    (cond b.has_remaining (next_cRiceParam k m) k)) (sym eb) n2 in
    rw (en, el, er) n3

pub with_remaining : (o : Bool) (k v : ℕ) → o ≡ true → one_remaining_bins o k v ≡ remaining_bins k v
unfolding one_remaining_bins
with_remaining o k v e = rw e refl

pub without_remaining : (o : Bool) (k v : ℕ) → o ≡ false → one_remaining_bins o k v ≡ []
unfolding one_remaining_bins
without_remaining o k v e = rw e refl
