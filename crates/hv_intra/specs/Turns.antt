-- Steps by which columns become rows.
use Rattle.std.specs.Prelude.{ℕ, ◌+◌, ◌*◌, ◌/◌, ◌%◌, cond, nat_lt, List, ◌++◌, slice_index}

-- where a sample of a block of so many stood, before the lowest bit of its place went to the top
abbrev pub lowest_to_top : ℕ → ℕ → ℕ
lowest_to_top area j = j % 2 * (area / 2) + j / 2

-- two runs of 16, in turn, from a sample on
abbrev pub woven : List ℕ → List ℕ → ℕ → ℕ → ℕ
woven first second from k = slice_index (first ++ second) (16 * (k % 2) + (from + k / 2))

-- two rows of 8, in turn
abbrev pub in_turn : List ℕ → List ℕ → ℕ → ℕ
in_turn first second k = slice_index (first ++ second) (8 * (k % 2) + k / 2)

-- the tile of a block of 32x32 that begins in a column and a row, by its columns
abbrev pub of_tile : List ℕ → ℕ → ℕ → ℕ → ℕ
of_tile columns column row j = slice_index columns (32 * (column + j / 16) + row + j % 16)

-- two tiles of 16x16, one beside the other
abbrev pub of_tiles : List ℕ → List ℕ → ℕ → ℕ
of_tiles first second j =
    slice_index (cond (nat_lt (j % 32) 16) first second) (16 * (j / 32) + j % 32 % 16)
