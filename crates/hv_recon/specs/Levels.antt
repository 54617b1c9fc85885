-- The levels of a transform block.
use Rattle.std.specs.Prelude.{zero, suc, List, [], ◌∷◌, Bool, true, false, ◌||◌, ℤ, pos, negsuc}

abbrev pub is_other_than_0 : ℤ → Bool
is_other_than_0 (pos zero) = false
is_other_than_0 (pos (suc n)) = true
is_other_than_0 (negsuc n) = true

-- whether one of these levels isn't 0
abbrev pub is_coded : List ℤ → Bool
is_coded [] = false
is_coded (level ∷ levels) = is_other_than_0 level || is_coded levels
