-- What stands in a writer of bits.
use Rattle.std.specs.Prelude.{◌≡◌, ℕ, Bool, false, List, ◌++◌}

-- the bits that were put, from the first to the last, and whether a growth failed
pub record Written : Type 0 where
  pub bits : List ℕ
  pub failed : Bool

-- If no growth has failed by now, none had failed before, and these bits were added.
pub record Appends (old new : Written) (more : List ℕ) : Type 0 where
  pub unfailed : new.failed ≡ false → old.failed ≡ false
  pub bits : new.failed ≡ false → new.bits ≡ old.bits ++ more
