-- A group's output, as contracts see it.
use Rattle.std.specs.Prelude.{ℕ, List}

-- the units in coding order, and the cropped raw pictures in output order
pub record GroupOutput : Type 0 where
  pub slices : List (List ℕ)
  pub shown : List (List ℕ)
