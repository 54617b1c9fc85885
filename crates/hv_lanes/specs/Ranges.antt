-- How great the numbers of a block may be.
use Rattle.std.specs.Prelude.{All, Bool, List, nat_lt, ℤ}
use Rattle.std.specs.Int.RustNames.{FitsSigned, unsigned_abs}
use mir.Syntax.{w16}

-- each is from -32768 to 32767
abbrev pub Have16Bits : List ℤ → Type 0
Have16Bits numbers = All (FitsSigned w16) numbers

abbrev pub is_other_than_0 : ℤ → Bool
is_other_than_0 z = nat_lt 0 (unsigned_abs z)
