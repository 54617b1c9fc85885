-- Whole numbers as magnitudes and signs.
use Rattle.std.proofs.Common.{◌≡◌, zero, suc, refl, arith, ℤ, pos, negsuc}
use Rattle.std.specs.Int.{is_negative}
use Rattle.std.specs.Int.RustNames.{unsigned_abs}
use Rattle.hv_lemmas.proofs.ComparisonLemmas.{lt_zero}
use Rattle.hv_residual_model.specs.ResidualSyntax.{with_sign}

pub with_own_sign : (z : ℤ) → with_sign (is_negative z) (unsigned_abs z) ≡ z
with_own_sign (pos zero) = refl
with_own_sign (pos (suc n)) = rw (lt_zero (suc n)) refl
with_own_sign (negsuc n) = refl
