-- Tables of numbers by rows.
use Rattle.std.specs.Prelude.{◌≡◌, ℕ, ◌<◌, List, [], slice_index_or, ℤ, pos}

-- in the first n rows, the first n numbers of row i are f i 0, f i 1 and so on
pub record HasEntries (n : ℕ) (f : ℕ → ℕ → ℤ) (rows : List (List ℤ)) : Type 0 where
  pub each : (i j : ℕ) → i < n → j < n → slice_index_or (slice_index_or rows i []) j (pos 0) ≡ f i j
