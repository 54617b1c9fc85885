-- Scaling of vectors (8.5.3.2.7): products that 32 bits hold, and distances of 8 bits, which aren't
-- cut.
use Rattle.std.proofs.Common.{◌≡◌, ◌≤◌, ◌∙◌, arith, ap}
use Rattle.std.proofs.Math.Nat.{mul-le-mul}
use Rattle.std.proofs.lemmas.Int.{ints, clamps, unsigned_abs-mul}
use Rattle.std.specs.Prelude.{ℤ, pos, negsuc, ◌*ℤ◌}
use Rattle.std.specs.Int.RustNames.{unsigned_abs, FitsSigned}
use mir.Syntax.{w8}
use Rattle.hv_lemmas.proofs.SignedLemmas.{passed, passed_small}
use Rattle.hv_vector_model.specs.VectorPrediction.{cut}

pub product_most : (a b : ℤ) → unsigned_abs a ≤ 4096 → unsigned_abs b ≤ 32768 →
    unsigned_abs (a *ℤ b) ≤ 134217728
product_most a b h k = rw (unsigned_abs-mul a b) (mul-le-mul h k)

pub product_is : (a b : ℤ) → unsigned_abs a ≤ 4096 → unsigned_abs b ≤ 32768 →
    passed (passed a *ℤ passed b) ≡ a *ℤ b
product_is a b h k =
    ap (λ x. passed (x *ℤ passed b)) (passed_small a (omega (arith, h))) ∙
    ap (λ y. passed (a *ℤ y)) (passed_small b (omega (arith, k))) ∙
    passed_small (a *ℤ b) (omega (arith, product_most a b h k))

pub distance_is : (z : ℤ) → FitsSigned w8 z → cut z ≡ z
distance_is (pos n) f = omega (arith, ints, clamps, f)
distance_is (negsuc n) f = omega (arith, ints, clamps, f)
