-- Sums of functions that agree.
use Rattle.std.proofs.Common.{◌≡◌, ℕ, zero, suc, ◌+◌, ◌<◌, refl, ap₂, arith}
use Rattle.hv_sample_model.specs.Blocks.{total_of}

pub total_of_same : (n : ℕ) (f g : ℕ → ℕ) → ((i : ℕ) → i < n → f i ≡ g i) →
    total_of n f ≡ total_of n g
unfolding total_of
total_of_same zero f g same = refl
total_of_same (suc n) f g same =
    ap₂ (λ a b. a + b) (total_of_same n f g (λ i below. same i (omega (arith, below))))
    (same n (omega arith))
