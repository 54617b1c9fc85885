-- A reader or a writer of the standard library, and a count of its faults.
use Rattle.std.specs.Prelude.{ℕ, List, Option, take}
use Rattle.std.specs.Io.KnownBytes.{Appends}

pub record Adapted (Inner : Type 0) : Type 0 where
  pub inner : Inner
  pub faults : ℕ

-- known bytes grow by a first part of these, or by none of them
abbrev pub AppendsPart : Option (List ℕ) → Option (List ℕ) → List ℕ → Type 0
AppendsPart old new bytes = (n : ℕ) × Appends old new (take n bytes)
