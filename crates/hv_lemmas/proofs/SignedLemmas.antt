-- Signed numbers: sums, and what passes through the 32 bits of the code's own.
use Rattle.std.proofs.Common.{◌≡◌, ◌+◌, ◌<◌, ◌≤◌, arith}
use Rattle.std.specs.Prelude.{ℤ, ◌+ℤ◌}
use Rattle.std.specs.Int.RustNames.{unsigned_abs}
use Rattle.std.proofs.lemmas.Int.{ints, to_z-of_z, fits_signed_from_abs}
use mir.Syntax.{w32}
use mir.Val.{to_z, of_z}

abbrev pub passed : ℤ → ℤ
passed z = to_z w32 (of_z w32 z)

-- a small number passes as it is
pub passed_small : (z : ℤ) → unsigned_abs z < 2147483648 → passed z ≡ z
passed_small z h = to_z-of_z w32 z (fits_signed_from_abs w32 z h)

pub size_of_sum : (a b : ℤ) → unsigned_abs (a +ℤ b) ≤ unsigned_abs a + unsigned_abs b
size_of_sum a b = omega (arith, ints)
