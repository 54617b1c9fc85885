-- Numbers in lanes of 16 and 32 bits, and rows in pairs.
use Rattle.std.specs.Prelude.{List, [], cond, length, nat_eq, nat_lt, pos, slice_index_or, suc, zero, ℕ, ℤ, ◌%◌, ◌*◌, ◌+◌, ◌-◌, ◌/◌, ◌<◌, ◌^◌, ◌≡◌, ◌≤◌}
use Rattle.std.specs.Int.{int_wrap}
use mir.Syntax.{w16, w32}
use Rattle.std.specs.Int.RustNames.{FitsSigned}
use Rattle.hv_lanes.specs.Passes.{table_row}

abbrev pub at : List ℤ → ℕ → ℤ
at numbers i = slice_index_or numbers i (pos 0)

-- four lanes are f 0 to f 3, wrapped to 32 bits
pub record FourLanes (f : ℕ → ℤ) (lanes : List ℤ) : Type 0 where
  pub count : length lanes ≡ 4
  pub each : (j : ℕ) → j < 4 → at lanes j ≡ int_wrap w32 (f j)

-- each has 16 bits
abbrev pub Numbers : List ℤ → Type 0
Numbers numbers = (k : ℕ) → FitsSigned w16 (at numbers k)

abbrev pub Numbers32 : List ℤ → Type 0
Numbers32 numbers = (k : ℕ) → FitsSigned w32 (at numbers k)

-- number r of column i of rows that have pairs: row p has numbers 2 p and 2 p + 1
abbrev pub in_pairs : List (List ℤ) → ℕ → ℕ → ℤ
in_pairs rows i r = at (table_row rows (r / 2)) (2 * i + r % 2)

-- the weight of number r of four, in lane j
abbrev pub weight : List ℤ → ℕ → ℕ → ℤ
weight weights j r = at weights (8 * (r / 2) + 2 * j + r % 2)

-- the coefficient that stands at position r of a column in order
abbrev pub place : ℕ → ℕ → ℕ
place zero r = r
place (suc d) r = cond (nat_lt r (2 ^ (d + 2))) (2 * r + 1) (2 * place d (r - 2 ^ (d + 2)))

-- the numbers of two rows in turn
abbrev pub woven : List ℤ → List ℤ → ℕ → ℤ
woven first second k = cond (nat_eq (k % 2) 0) (at first (k / 2)) (at second (k / 2))

-- the numbers of a table of pairs
abbrev pub entry_of : List (List ℕ) → ℕ → ℕ → ℕ
entry_of table p h = slice_index_or (slice_index_or table p []) h 0

-- which rows of a block of 2^(d + 2) rows stand in pairs
pub record IsOrder (d pairs : ℕ) (table : List (List ℕ)) : Type 0 where
  pub first : (p : ℕ) → p < pairs → entry_of table p 0 ≡ place d (2 * p)
  pub second : (p : ℕ) → p < pairs → entry_of table p 1 ≡ place d (2 * p + 1)

-- each pair rises, and has rows of a block of n rows
abbrev pub ArePairs : ℕ → ℕ → List (List ℕ) → Type 0
ArePairs pairs n table =
    (p : ℕ) → p < pairs → (entry_of table p 0 < entry_of table p 1) × (entry_of table p 1 < n)

-- in their first columns, rows have the rows of a block of n columns in pairs
abbrev pub HasPairs : ℕ → ℕ → ℕ → List ℤ → List (List ℤ) → Type 0
HasPairs d n columns block rows =
    (i r : ℕ) → i < columns → r < n →
    in_pairs rows i r ≡ at block (place d r * n + i)

-- the numbers behind the first eight rows of n columns are 0
abbrev pub IsShort : ℕ → List ℤ → Type 0
IsShort n block = (k : ℕ) → 8 * n ≤ k → at block k ≡ pos 0

abbrev pub AreZero : List (List ℤ) → Type 0
AreZero rows = (p k : ℕ) → at (table_row rows p) k ≡ pos 0

-- number r of column i of a block of n columns, where row q of pairs has the rows that a table says
abbrev pub of_pairs : ℕ → List ℤ → List (List ℕ) → ℕ → ℕ → ℤ
of_pairs n block table i r = at block (entry_of table (r / 2) (r % 2) * n + i)
