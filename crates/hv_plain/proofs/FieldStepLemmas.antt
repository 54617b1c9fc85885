-- The bits of a field, as a program puts them digit by digit.
use Rattle.std.proofs.Common.{◌≡◌, ℕ, zero, suc, ◌+◌, ◌-◌, ◌/◌, ◌%◌, ◌^◌, ◌<◌, List, [], ◌∷◌, ◌++◌, sym, ap, ◌∙◌, arith, append_assoc}
use Rattle.hv_stream_model.specs.Bits.{digits}
use Rattle.hv_stream_model.specs.Fields.{log2_of, exp_golomb}
use Rattle.hv_stream_model.proofs.DigitLemmas.{digits-add}
use Rattle.hv_stream_model.proofs.FieldLemmas.{digits-zero}

digits_last : (k v : ℕ) → 0 < k → digits (k - 1) (v / 2) ++ v % 2 ∷ [] ≡ digits k v
digits_last zero v h = absurd (omega arith)
digits_last (suc j) v h =
    let k : suc j - 1 ≡ j = omega arith in
    let s : suc j ≡ j + 1 = omega arith in
    let one : v / 2 ^ 0 ≡ v = omega arith in
    let last : digits 1 v ≡ v % 2 ∷ [] = ap (λ n. n % 2 ∷ []) one in
    ap (λ n. digits n (v / 2) ++ v % 2 ∷ []) k ∙ ap (λ w. digits j (v / 2) ++ w) (sym last) ∙
    sym (digits-add j 1 v) ∙ ap (λ n. digits n v) (sym s)

pub digits_more : (old : List ℕ) (k v : ℕ) → 0 < k →
    (old ++ digits (k - 1) (v / 2)) ++ v % 2 ∷ [] ≡ old ++ digits k v
digits_more old k v h =
    append_assoc old (digits (k - 1) (v / 2)) (v % 2 ∷ []) ∙ ap (λ w. old ++ w) (digits_last k v h)

pub golomb_put : (old : List ℕ) (v n z : ℕ) → n ≡ v + 1 → z ≡ log2_of n →
    (old ++ digits z 0) ++ digits (z + 1) n ≡ old ++ exp_golomb v
golomb_put old v n z e f =
    let k : ℕ = log2_of (v + 1) in
    let g : z ≡ k = f ∙ ap log2_of e in
    rw (g, e) (append_assoc old (digits k 0) (digits (k + 1) (v + 1)) ∙
    ap (λ w. old ++ (w ++ digits (k + 1) (v + 1))) (digits-zero k))
