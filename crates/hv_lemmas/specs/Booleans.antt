-- Truth values.
use Rattle.std.specs.Prelude.{Bool, true, false, not}

-- both are true, or both are false
abbrev pub same : Bool → Bool → Bool
same true b = b
same false b = not b
