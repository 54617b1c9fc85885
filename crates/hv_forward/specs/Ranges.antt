-- How great the numbers of a block may be.
use Rattle.std.specs.Prelude.{All, List, ℤ, ◌≤◌}
use Rattle.std.specs.Int.RustNames.{unsigned_abs}

-- each is a difference of two samples of 8 bits
abbrev pub AreDifferences : List ℤ → Type 0
AreDifferences numbers = All (λ z. unsigned_abs z ≤ 255) numbers
