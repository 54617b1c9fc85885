-- Blocks in planes. A plane is given by its samples, from the block's upper left one on, and by its
-- stride: how many samples lie from the start of one row to the start of the next.
use Rattle.std.specs.Prelude.{ℕ, ◌+◌, ◌*◌, ◌<◌, ◌≤◌, List, length, take, drop}

-- row y of a block of so many columns
abbrev pub row_of_block : List ℕ → ℕ → ℕ → ℕ → List ℕ
row_of_block samples stride columns y = take columns (drop (y * stride) samples)

-- every row of a block of so many columns and rows is there whole
abbrev pub HoldsBlock : List ℕ → ℕ → ℕ → ℕ → Type 0
HoldsBlock samples stride columns rows = (y : ℕ) → y < rows → y * stride + columns ≤ length samples
