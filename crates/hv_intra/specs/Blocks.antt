-- What rows of a block hold.
use Rattle.std.specs.Prelude.{◌≡◌, ℕ, ◌+◌, ◌*◌, ◌<◌, List, slice_index}

-- f 0, f 1 and so on: n samples
abbrev pub IsRow : ℕ → (ℕ → ℕ) → List ℕ → Type 0
IsRow n f row = (x : ℕ) → x < n → slice_index row x ≡ f x

-- f x y in column x of row y, in the first rows of n columns
abbrev pub HasRows : ℕ → ℕ → (ℕ → ℕ → ℕ) → List ℕ → Type 0
HasRows n rows f block = (x y : ℕ) → x < n → y < rows → slice_index block (y * n + x) ≡ f x y
