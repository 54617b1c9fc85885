-- Samples between reference samples.
use Rattle.std.proofs.Common.{◌≡◌, ℕ, ◌+◌, ◌*◌, ◌^◌, ◌<◌, ◌≤◌, cond, List, get_or, refl, ap, ap₂, ◌∙◌, arith, inl, inr, eqb}
use Rattle.std.specs.Prelude.{◌⊎◌, ℤ, pos, ◌+ℤ◌, ◌-ℤ◌}
use Rattle.std.proofs.lemmas.Int.{ints}
use Rattle.hv_tables.specs.Angles.{intraPredAngle}
use Rattle.hv_sample_model.specs.IntraPrediction.{ref, interpolated}
use Rattle.hv_intra.specs.Blocks.{HasRows}
use Rattle.hv_intra.specs.References.{shift, part, first, blended, sample_between, HoldsReference}
use Rattle.hv_intra.proofs.FactLemmas.{row_facts, RowFacts}

-- ---- lists that hold the reference samples
branches : (p : ℕ) (a b c d : ℕ) → a ≡ c → (p ≡ 0) ⊎ (b ≡ d) →
    cond (eqb p 0) a b ≡ cond (eqb p 0) c d
branches p a b c d e (inl h) = rw h e
branches p a b c d e (inr h) = rw (e, h) refl

pub between_is : (log2 mode x y : ℕ) (main other : ℕ → ℕ) (reference : List ℕ) → 2 ≤ log2 →
    log2 ≤ 5 → 2 ≤ mode → mode ≤ 34 → HoldsReference log2 mode main other reference →
    x < 2 ^ log2 → y < 2 ^ log2 →
    sample_between reference (first log2 mode y) (part mode y) x ≡ interpolated main other mode x y
unfolding shift part
between_is log2 mode x y main other reference least most from to held column row =
    let n : ℕ = 2 ^ log2 in
    let f : RowFacts log2 mode y = row_facts log2 mode y least most from to row in
    let p : ℕ = part mode y in
    let begin : ℕ = first log2 mode y in
    let index : ℤ = pos (x + 1) +ℤ shift mode y in
    let place : pos (begin + x) -ℤ pos n ≡ index = omega (arith, ints, f.is) in
    let behind : pos (begin + x + 1) -ℤ pos n ≡ index +ℤ pos 1 = omega (arith, ints, f.is) in
    let here : get_or reference (begin + x) 0 ≡ ref main other mode index =
    held (begin + x) (omega (arith, f.least)) (omega (arith, f.most)) ∙ ap (ref main other mode) place in
    let there : (p ≡ 0) ⊎ (blended p (get_or reference (begin + x) 0) (get_or reference (begin + x + 1) 0) ≡
    blended p (ref main other mode index) (ref main other mode (index +ℤ pos 1))) =
    next_there p (blended p (get_or reference (begin + x) 0) (get_or reference (begin + x + 1) 0)) (blended p (ref main other mode index) (ref main other mode (index +ℤ pos 1))) (begin + n) (3 * n + 1) f.next
    (λ h. ap₂ (blended p) here
    (held (begin + x + 1) (omega (arith, f.least)) (omega (arith, h)) ∙ ap (ref main other mode) behind)) in
    branches p _ _ _ _ here there
  where
    next_there : (p b d e g : ℕ) → (p ≡ 0) ⊎ (e < g) → (e < g → b ≡ d) → (p ≡ 0) ⊎ (b ≡ d)
    next_there p b d e g (inl h) same = inl h
    next_there p b d e g (inr h) same = inr (same h)

-- ---- the straight modes
pub straight : (main other : ℕ → ℕ) (mode along across : ℕ) → intraPredAngle mode ≡ pos 0 →
    interpolated main other mode along across ≡ main (along + 1)
straight main other mode along across e =
    let none : (across + 1) * 0 ≡ 0 = omega arith in
    let same : along + 1 + 0 ≡ along + 1 = omega arith in
    rw (e, none, same) refl

-- ---- blocks that are made by columns
pub columns_between : (log2 mode : ℕ) (main other : ℕ → ℕ) (reference block : List ℕ) → 2 ≤ log2 →
    log2 ≤ 5 → 2 ≤ mode → mode ≤ 34 → HoldsReference log2 mode main other reference →
    HasRows (2 ^ log2) (2 ^ log2) (λ x y. sample_between reference (first log2 mode x) (part mode x) y) block →
    HasRows (2 ^ log2) (2 ^ log2) (λ x y. interpolated main other mode y x) block
columns_between log2 mode main other reference block least most from to held rows = λ x y column row.
    rows x y column row ∙ between_is log2 mode y x main other reference least most from to held row column
