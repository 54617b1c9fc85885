-- What several calls of a source or a sink do together.
use Rattle.std.specs.Prelude.{◌≡◌, ℕ, ◌+◌, List, ◌++◌, take, drop, Option, Some}
use Rattle.hv_types.specs.Outside.{Fills, Reads, Writes}

-- A read into the part of a buffer that is left, behind what was read before: `whole` is the
-- buffer then.
abbrev pub ReadsAreJoined : Type 0
ReadsAreJoined =
    (bytes : List ℕ) (mid now : Option (List ℕ)) (into part whole : List ℕ) (at n : ℕ) →
    Fills bytes mid into at → Reads mid now part n →
    take (at + n) whole ≡ take at into ++ take n part →
    Fills bytes now whole (at + n)

-- A write of the rest of a piece, behind what was written of it before.
abbrev pub WritesAreJoined : Type 0
WritesAreJoined =
    (bytes piece : List ℕ) (mid now : Option (List ℕ)) (at n : ℕ) →
    mid ≡ Some (bytes ++ take at piece) → Writes mid now (drop at piece) n →
    now ≡ Some (bytes ++ take (at + n) piece)
