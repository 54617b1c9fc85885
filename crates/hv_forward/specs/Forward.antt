-- Sums of the forward transform in lanes.
use Rattle.std.specs.Prelude.{List, cond, length, nat_eq, nat_lt, ℕ, ℤ, ◌%◌, ◌*ℤ◌, ◌*◌, ◌+ℤ◌, ◌+◌, ◌-ℤ◌, ◌-◌, ◌/◌, ◌<◌, ◌^◌, ◌≡◌, ◌≤◌}
use Rattle.hv_tables.specs.TransformMatrix.{transMatrix}
use Rattle.hv_sample_model.specs.Blocks.{sum_of, total_of}
use Rattle.hv_lanes.specs.Lanes.{Numbers, at, in_pairs, weight}
use Rattle.hv_lanes.specs.Passes.{table_row}
use Rattle.hv_lemmas.specs.Clipping.{clip16}
use Rattle.hv_sample_model.specs.Quantisation.{rounded}
use Rattle.std.specs.Int.RustNames.{unsigned_abs}

-- the sum over a row of numbers, at frequency u
abbrev pub row_sum : ℕ → (ℕ → ℤ) → ℕ → ℤ
row_sum log2 c u = sum_of (2 ^ log2) (λ x. transMatrix log2 u x *ℤ c x)

-- the sums and the differences of numbers that lie apart by a mirror in the middle of 2 m
abbrev pub folded_sum : ℕ → (ℕ → ℤ) → ℕ → ℤ
folded_sum m c x = c x +ℤ c (2 * m - 1 - x)

abbrev pub folded_difference : ℕ → (ℕ → ℤ) → ℕ → ℤ
folded_difference m c x = c x -ℤ c (2 * m - 1 - x)

-- numbers that two functions give in turn
abbrev pub in_turn : (ℕ → ℤ) → (ℕ → ℤ) → ℕ → ℤ
in_turn f g u = cond (nat_eq (u % 2) 0) (f (u / 2)) (g (u / 2))

-- the numbers of two eights, one behind the other
abbrev pub in_eights : (ℕ → ℤ) → (ℕ → ℤ) → ℕ → ℤ
in_eights c d x = cond (nat_lt x 8) (c x) (d (x - 8))

-- four products of a row, from number 4 q on
abbrev pub quarter_sum : List ℤ → (ℕ → ℤ) → ℕ → ℕ → ℤ
quarter_sum weights c q j = sum_of 4 (λ r. weight weights j r *ℤ c (4 * q + r))

-- the products of sixteen numbers in two eights, by four rows of weights
abbrev pub sixteen_sums : List (List ℤ) → ℕ → (ℕ → ℤ) → (ℕ → ℤ) → ℕ → ℤ
sixteen_sums table i c d j =
    (quarter_sum (table_row table i) c 0 j +ℤ quarter_sum (table_row table (i + 1)) c 1 j) +ℤ
    (quarter_sum (table_row table (i + 2)) d 0 j +ℤ quarter_sum (table_row table (i + 3)) d 1 j)

-- a mean of a row, to the nearest of 16 bits
abbrev pub row_mean : ℕ → (ℕ → ℤ) → ℕ → ℕ → ℤ
row_mean log2 c shift u = clip16 (rounded (row_sum log2 c u) shift)

-- row y of a block of n columns
abbrev pub line_of : ℕ → List ℤ → ℕ → ℕ → ℤ
line_of n block y x = at block (y * n + x)

-- the means of all rows of a block, by rows
abbrev pub rows_mean : ℕ → List ℤ → ℕ → ℕ → ℤ
rows_mean log2 block shift k =
    row_mean log2 (line_of (2 ^ log2) block (k / 2 ^ log2)) shift (k % 2 ^ log2)

-- eight lanes are c 0 to c 7, and none is greater than so much
pub record EightLanes (most : ℕ) (c : ℕ → ℤ) (lanes : List ℤ) : Type 0 where
  pub count : length lanes ≡ 8
  pub each : (x : ℕ) → x < 8 → at lanes x ≡ c x
  pub small : (x : ℕ) → x < 8 → unsigned_abs (c x) ≤ most

-- all numbers of a table have 16 bits
pub record HasNumbers (table : List (List ℤ)) : Type 0 where
  pub each : (i : ℕ) → Numbers (table_row table i)

-- the weights of the four sums of a row of four
abbrev pub HasFour : List ℤ → Type 0
HasFour weights = (j r : ℕ) → j < 4 → r < 4 → weight weights j r ≡ transMatrix 2 j r

-- the weights of four frequencies of an odd half, from 4 g on, of four numbers, from 4 q on
abbrev pub HasOddRow : ℕ → ℕ → ℕ → List ℤ → Type 0
HasOddRow log2 g q weights =
    (j r : ℕ) → j < 4 → r < 4 →
    weight weights j r ≡ transMatrix log2 (2 * (4 * g + j) + 1) (4 * q + r)

-- the weights of a side of 2^log2: those of four, and then the odd halves of each side up to it
pub record HasRowWeights (log2 : ℕ) (table : List (List ℤ)) : Type 0 where
  pub four : HasFour (table_row table 0)
  pub odd : (d g q : ℕ) → d + 3 ≤ log2 → g < 2 ^ d → q < 2 ^ d →
      HasOddRow (d + 3) g q (table_row table ((4 ^ d + 2) / 3 + 2 ^ d * g + q))
  pub small : (i : ℕ) → Numbers (table_row table i)

-- the sum of four entries by two numbers of each of two eights
abbrev pub entry_quad : List ℤ → List ℤ → List ℤ → ℕ → ℤ
entry_quad e a b j =
    ((at a (2 * j) *ℤ at e 0) +ℤ (at a (2 * j + 1) *ℤ at e 1)) +ℤ
    ((at b (2 * j) *ℤ at e 2) +ℤ (at b (2 * j + 1) *ℤ at e 3))

-- the sum of so many entries by numbers of column 4 i + j, from the first on
abbrev pub column_part : ℕ → List ℤ → List (List ℤ) → ℕ → ℕ → ℕ → ℤ
column_part count entries rows i first j =
    sum_of count (λ r. at entries r *ℤ in_pairs rows (4 * i + j) (first + r))

-- the sum over column u
abbrev pub entry_sum : ℕ → List ℤ → List (List ℤ) → ℕ → ℤ
entry_sum n entries rows u = sum_of n (λ r. at entries r *ℤ in_pairs rows u r)

-- and its mean
abbrev pub entry_mean : ℕ → List ℤ → List (List ℤ) → ℕ → ℕ → ℤ
entry_mean n entries rows shift u = rounded (entry_sum n entries rows u) shift

-- the means of all columns at all frequencies, by frequencies
abbrev pub columns_mean : ℕ → List (List ℤ) → List (List ℤ) → ℕ → ℕ → ℤ
columns_mean n table rows shift k = entry_mean n (table_row table (k / n)) rows shift (k % n)

-- the sizes of n entries sum to 64 n at most
abbrev pub IsLight : ℕ → List ℤ → Type 0
IsLight n entries = total_of n (λ r. unsigned_abs (at entries r)) ≤ 64 * n
