-- Clipping of whole numbers (5.8).
use Rattle.std.specs.Prelude.{ℕ, ℤ, pos, negsuc}
use Rattle.std.specs.Int.{int_min, int_max}
use Rattle.std.specs.Int.RustNames.{unsigned_abs}

-- Clip3
abbrev pub clip3 : ℤ → ℤ → ℤ → ℤ
clip3 low high value = int_max low (int_min high value)

-- Clip1 of samples of 8 bits
abbrev pub clip1 : ℤ → ℕ
clip1 value = unsigned_abs (clip3 (pos 0) (pos 255) value)

-- to 16 bits, coeffMin to coeffMax (7.4.9.11)
abbrev pub clip16 : ℤ → ℤ
clip16 value = clip3 (negsuc 32767) (pos 32767) value
