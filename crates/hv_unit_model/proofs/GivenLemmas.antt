-- What every value of a script is, whatever answers it.
use Rattle.std.proofs.Common.{◌≡◌, ℕ, zero, suc, ◌+◌, ◌^◌, ◌<◌, ◌≤◌, Bool, true, false, cond, List, [], ◌∷◌, refl, arith, pow-suc}
use Rattle.hv_tables.specs.Bins.{Answered}
use Rattle.hv_stream_model.specs.Scripts.{Script, Done, Ask, Fail, only_if, ◌>>=◌, Reads, nothing, one}
use Rattle.hv_residual_model.specs.UnitBins.{UnitQuestion, UnitScript, in_slice}
use Rattle.hv_residual_model.specs.Binarization.{fixed_length, truncated_unary}

abbrev pub Gives : {Q V A : Type 0} → (A → Type 0) → Script Q V A → Type 0
Gives P (Done a) = P a
Gives {V = V} P (Ask q c) = (v : V) → Gives P (c v)
Gives P Fail = Unit {0}

pub given : {Q V A : Type 0} (P : A → Type 0) {s : Script Q V A} {bins : List (Answered Q V)}
    {a : A} →
    Gives P s → Reads s bins a → P a
given P g nothing = g
given P g (one {v = v} r) = given P (g v) r

-- from what is read of any answers
pub gives_of_reads : {Q V A : Type 0} (P : A → Type 0) (s : Script Q V A) →
    ((bins : List (Answered Q V)) (a : A) → Reads s bins a → P a) → Gives P s
gives_of_reads P (Done a) h = h [] a nothing
gives_of_reads P (Ask q c) h =
    λ v. gives_of_reads P (c v)
    (λ bins a r. h (record { question = q; value = v } ∷ bins) a (one r))
gives_of_reads P Fail h = tt

pub gives_then : {Q V A B : Type 0} (P : A → Type 0) (R : B → Type 0) (s : Script Q V A)
    (k : A → Script Q V B) → Gives P s → ((a : A) → P a → Gives R (k a)) → Gives R (s >>= k)
gives_then P R (Done a) k g h = h a g
gives_then P R (Ask q c) k g h = λ v. gives_then P R (c v) k (g v) h
gives_then P R Fail k g h = tt

-- whatever the first script gives
pub gives_after : {Q V A B : Type 0} (R : B → Type 0) (s : Script Q V A) (k : A → Script Q V B) →
    ((a : A) → Gives R (k a)) → Gives R (s >>= k)
gives_after R (Done a) k h = h a
gives_after R (Ask q c) k h = λ v. gives_after R (c v) k h
gives_after R Fail k h = tt

pub gives_if : {Q V A : Type 0} (P : A → Type 0) (test : Bool) (s : Script Q V A) →
    (test ≡ true → Gives P s) → Gives P (only_if test s)
gives_if P true s h = h refl
gives_if P false s h = tt

pub gives_either : {Q V A : Type 0} (P : A → Type 0) (test : Bool) (s t : Script Q V A) →
    (test ≡ true → Gives P s) → (test ≡ false → Gives P t) → Gives P (cond test s t)
gives_either P true s t h k = h refl
gives_either P false s t h k = k refl

-- the same in a slice
pub gives_in_slice : {A : Type 0} (P : A → Type 0) (s : UnitScript A) → Gives P s →
    Gives P (in_slice s)
gives_in_slice P (Done a) g = g
gives_in_slice P (Ask q c) g = λ v. gives_in_slice P (c v) (g v)
gives_in_slice P Fail g = tt

-- ---- numbers

pub fixed_below : (n : ℕ) → Gives (λ v. v < 2 ^ n) (fixed_length n)
fixed_below zero = omega arith
fixed_below (suc n) = λ digit.
    gives_then (λ v. v < 2 ^ n) (λ v. v < 2 ^ suc n) (fixed_length n) _ (fixed_below n)
    (λ rest below. sum_below digit rest below) where
      sum_below : (digit : Bool) (rest : ℕ) → rest < 2 ^ n → cond digit (2 ^ n) 0 + rest < 2 ^ suc n
      sum_below true rest below = let e = pow-suc 2 n in omega (arith, e, below)
      sum_below false rest below = let e = pow-suc 2 n in omega (arith, e, below)

unary_by : (question : ℕ → UnitQuestion) (cMax binIdx : ℕ) →
    Gives (λ v. v ≤ cMax) (truncated_unary question cMax (suc binIdx)) → (digit : Bool) →
    Gives (λ v. v ≤ suc cMax)
    (cond digit (truncated_unary question cMax (suc binIdx) >>= λ rest. Done (suc rest)) (Done 0))
unary_by question cMax binIdx g true =
    gives_then (λ v. v ≤ cMax) (λ v. v ≤ suc cMax) (truncated_unary question cMax (suc binIdx)) _ g
    (λ rest most. omega (arith, most))
unary_by question cMax binIdx g false = omega arith

pub unary_at_most : (question : ℕ → UnitQuestion) (cMax binIdx : ℕ) →
    Gives (λ v. v ≤ cMax) (truncated_unary question cMax binIdx)
unfolding truncated_unary
unary_at_most question zero binIdx = omega arith
unary_at_most question (suc cMax) binIdx =
    λ digit. unary_by question cMax binIdx (unary_at_most question cMax (suc binIdx)) digit
