-- Rows of blocks in lists of samples.
use Rattle.std.specs.Prelude.{ℕ, ◌+◌, List, ◌++◌, length, take, drop}

-- with a row in the places from this one on
abbrev pub with_row : List ℕ → ℕ → List ℕ → List ℕ
with_row samples from row = take from samples ++ (row ++ drop (from + length row) samples)
