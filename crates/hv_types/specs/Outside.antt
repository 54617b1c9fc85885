-- What a read and a write do to a source, a sink and their counts of faults.
use Rattle.std.specs.Prelude.{◌≡◌, ℕ, ◌+◌, ◌-◌, ◌^◌, ◌≤◌, min, List, [], ◌++◌, length, take, drop, Option, Some, None}

-- The count of faults rose: it is greater, or stands at the last value of a counter of 64 bits.
pub record Rises (before now : ℕ) : Type 0 where
  pub kept : before ≤ now
  pub counted : min (before + 1) (2 ^ 64 - 1) ≤ now

-- The first n of `bytes` stand at the front of `into`, and the source then tells the rest.
pub record Fills (bytes : List ℕ) (now : Option (List ℕ)) (into : List ℕ) (n : ℕ) : Type 0 where
  pub there : n ≤ length bytes
  pub same : take n into ≡ take n bytes
  pub left : now ≡ Some (drop n bytes)

-- A read gave n bytes.
pub record Reads (before now : Option (List ℕ)) (into : List ℕ) (n : ℕ) : Type 0 where
  pub room : n ≤ length into
  pub told : (bytes : List ℕ) → before ≡ Some bytes → Fills bytes now into n
  -- nothing is given only at the end of the input
  pub end : (bytes : List ℕ) → before ≡ Some bytes → n ≡ 0 → bytes ≡ []
  pub untold : before ≡ None → now ≡ None

-- A write took the first n bytes of `piece`.
pub record Writes (before now : Option (List ℕ)) (piece : List ℕ) (n : ℕ) : Type 0 where
  pub some : 1 ≤ n
  pub there : n ≤ length piece
  pub told : (bytes : List ℕ) → before ≡ Some bytes → now ≡ Some (bytes ++ take n piece)
  pub untold : before ≡ None → now ≡ None
