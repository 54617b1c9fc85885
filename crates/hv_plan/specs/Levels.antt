-- The levels of a transform block.
use Rattle.std.specs.Prelude.{zero, suc, Bool, true, false, not, nat_lt, ◌||◌, List, [], ◌∷◌, ℤ, pos, negsuc}

-- a level has 16 bits: CoeffMinY to CoeffMaxY (7.4.9.11)
abbrev pub has_16_bits : ℤ → Bool
has_16_bits (pos n) = nat_lt n 32768
has_16_bits (negsuc n) = nat_lt n 32768

abbrev pub is_zero : ℤ → Bool
is_zero (pos zero) = true
is_zero (pos (suc n)) = false
is_zero (negsuc n) = false

abbrev pub is_significant : ℤ → Bool
is_significant level = not (is_zero level)

abbrev pub any_significant : List ℤ → Bool
any_significant [] = false
any_significant (level ∷ levels) = is_significant level || any_significant levels
