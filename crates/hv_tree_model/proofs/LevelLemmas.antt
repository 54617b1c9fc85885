-- Levels that are 0 and that are not, and their magnitudes.
use Rattle.std.proofs.Common.{◌≡◌, zero, suc, ◌≤◌, true, false, arith, refl, ℤ, pos, negsuc, ltb-true}
use Rattle.std.specs.Int.RustNames.{unsigned_abs}
use Rattle.hv_plan.specs.Levels.{has_16_bits, is_significant}

pub small_magnitude : (z : ℤ) → has_16_bits z ≡ true → unsigned_abs z ≤ 32768
small_magnitude (pos n) h = let e = ltb-true n 32768 h in omega (arith, e)
small_magnitude (negsuc n) h = let e = ltb-true n 32768 h in omega (arith, e)

-- not significant: 0
pub insignificant : (z : ℤ) → is_significant z ≡ false → pos 0 ≡ z
insignificant (pos zero) h = refl
insignificant (pos (suc n)) h = cc
insignificant (negsuc n) h = cc

pub significant_above_0 : (z : ℤ) → is_significant z ≡ true → 1 ≤ unsigned_abs z
significant_above_0 (pos zero) h = cc
significant_above_0 (pos (suc n)) h = omega arith
significant_above_0 (negsuc n) h = omega arith
