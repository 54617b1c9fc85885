-- What the passes of the two transforms write, place by place. A block has n columns, and place k
-- of it is in column k % n of row k / n.
use Rattle.std.specs.Prelude.{List, [], pos, slice_index_or, ℕ, ℤ, ◌<◌, ◌≡◌, ◌≤◌}
use Rattle.std.specs.Int.RustNames.{unsigned_abs}
use Rattle.hv_sample_model.specs.Blocks.{total_of}

-- the first numbers of a list are f 0, f 1 and so on
abbrev pub HasFirst : ℕ → (ℕ → ℤ) → List ℤ → Type 0
HasFirst count f numbers = (k : ℕ) → k < count → slice_index_or numbers k (pos 0) ≡ f k

-- row i of a table
abbrev pub table_row : List (List ℤ) → ℕ → List ℤ
table_row table i = slice_index_or table i []

-- the sizes of the first n numbers of a row sum to so much at most
abbrev pub WeighAtMost : ℕ → ℕ → List (List ℤ) → Type 0
WeighAtMost n bound table =
    (i : ℕ) → i < n → total_of n (λ x. unsigned_abs (slice_index_or (table_row table i) x
    (pos 0))) ≤ bound

-- the first numbers of a list are so great at most, in size
abbrev pub AreWithin : ℕ → ℕ → List ℤ → Type 0
AreWithin count most numbers =
    (k : ℕ) → k < count → unsigned_abs (slice_index_or numbers k (pos 0)) ≤ most
