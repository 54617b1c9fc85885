-- Sums, one number at a time.
use Rattle.std.proofs.Common.{ap, ap₂, arith, refl, suc, zero, ℕ, ℤ, ◌*◌, ◌+ℤ◌, ◌+◌, ◌<◌, ◌∙◌, ◌≡◌}
use Rattle.hv_sample_model.specs.Blocks.{sum_of}
use Rattle.std.proofs.lemmas.Int.{ints}

pub sum_of_same : (n : ℕ) (f g : ℕ → ℤ) → ((i : ℕ) → i < n → f i ≡ g i) → sum_of n f ≡ sum_of n g
unfolding sum_of
sum_of_same zero f g same = refl
sum_of_same (suc n) f g same =
    ap₂ (λ a b. a +ℤ b) (sum_of_same n f g (λ i below. same i (omega (arith, below)))) (same n (omega arith))

pub append_sum : (n m : ℕ) (h : ℕ → ℤ) → sum_of (n + m) h ≡ sum_of n h +ℤ sum_of m (λ r. h (n + r))
unfolding sum_of
append_sum n zero h =
    let none : n + zero ≡ n = omega arith in
    ap (λ k. sum_of k h) none ∙ omega (arith, ints)
append_sum n (suc m) h =
    let more : n + suc m ≡ suc (n + m) = omega arith in
    ap (λ k. sum_of k h) more ∙ omega (arith, ints, append_sum n m h)

-- four products of a sum
abbrev pub chunk : (ℕ → ℤ) → ℕ → ℤ
chunk h q = sum_of 4 (λ r. h (4 * q + r))

pub eight_sum : (h : ℕ → ℤ) → sum_of 8 h ≡ chunk h 0 +ℤ chunk h 1
eight_sum h =
    append_sum 4 4 h ∙
    ap₂ (λ a b. a +ℤ b)
    (sum_of_same 4 h (λ r. h (4 * 0 + r)) (λ r below. ap h (omega arith)))
    (sum_of_same 4 (λ r. h (4 + r)) (λ r. h (4 * 1 + r)) (λ r below. ap h (omega arith)))

pub sixteen_sum : (h : ℕ → ℤ) → sum_of 16 h ≡ (chunk h 0 +ℤ chunk h 1) +ℤ (chunk h 2 +ℤ chunk h 3)
sixteen_sum h =
    append_sum 8 8 h ∙
    ap₂ (λ a b. a +ℤ b) (eight_sum h)
    (eight_sum (λ r. h (8 + r)) ∙
    ap₂ (λ a b. a +ℤ b)
    (sum_of_same 4 (λ r. h (8 + (4 * 0 + r))) (λ r. h (4 * 2 + r)) (λ r below. ap h (omega arith)))
    (sum_of_same 4 (λ r. h (8 + (4 * 1 + r))) (λ r. h (4 * 3 + r)) (λ r below. ap h (omega arith))))
