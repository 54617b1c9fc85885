-- What the blocks around a coding tree block see of it: its last column and its last row.
use Rattle.std.specs.Prelude.{ℕ, ◌+◌, ◌-◌, ◌*◌, ◌/◌, ◌%◌, List, drop, slice_index, slice_index_or}
use Rattle.hv_lemmas.specs.Lists.{tabulate}
use Rattle.hv_plan.specs.declared.prediction.Unit.{Unit}
use Rattle.hv_block.specs.Plans.{opening_unit}

-- The address in z-scan order (6.5.2) of the square of 8x8 luma samples in this column and row of a
-- block: the digits of column and row in turn, those of the column first.
unfoldable pub address_of : ℕ → ℕ → ℕ
address_of column row =
    column % 2 + 2 * (row % 2) + 4 * (column / 2 % 2) + 8 * (row / 2 % 2) +
    16 * (column / 4 % 2) + 32 * (row / 4 % 2)

-- the unit in this column and row, of units by their addresses
abbrev pub unit_at : List Unit → ℕ → ℕ → Unit
unit_at units column row = slice_index_or units (address_of column row) opening_unit

-- the units in the last column, from top to bottom
abbrev pub right_units : List Unit → List Unit
right_units units = tabulate 8 (λ row. unit_at units 7 row)

-- those in the last row, from left to right
abbrev pub bottom_units : List Unit → List Unit
bottom_units units = tabulate 8 (λ column. unit_at units column 7)

-- of a square of samples by rows, the last column from top to bottom
abbrev pub last_column : ℕ → List ℕ → List ℕ
last_column side samples = tabulate side (λ y. slice_index samples (y * side + (side - 1)))

-- and the last row from left to right
abbrev pub last_row : ℕ → List ℕ → List ℕ
last_row side samples = drop ((side - 1) * side) samples
