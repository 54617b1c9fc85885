-- Sums over columns in lanes of 32 bits, in even and odd halves.
use Rattle.hv_lanes.specs.Lanes.{FourLanes, Numbers, at, in_pairs, weight}
use Rattle.std.specs.Prelude.{List, cond, drop, nat_eq, pos, suc, take, zero, ℕ, ℤ, ◌%◌, ◌*ℤ◌, ◌*◌, ◌+ℤ◌, ◌+◌, ◌/◌, ◌<◌, ◌^◌, ◌≡◌, ◌≤◌}
use Rattle.std.specs.Int.{int_wrap}
use mir.Syntax.{w16, w32}
use Rattle.hv_sample_model.specs.Blocks.{sum_of}
use Rattle.hv_tables.specs.TransformMatrix.{transMatrix}
use Rattle.hv_lanes.specs.Passes.{table_row}
use Rattle.std.specs.Int.RustNames.{FitsSigned}
use Rattle.hv_lemmas.specs.Clipping.{clip16}
use Rattle.hv_sample_model.specs.Quantisation.{rounded}

-- the sum of four products: lane j has the weights 2 j and 2 j + 1 of each half
abbrev pub quad : List ℤ → List ℤ → List ℤ → ℕ → ℤ
quad a b w j =
    int_wrap w32
    ((at a 0 *ℤ at w (2 * j)) +ℤ (at a 1 *ℤ at w (2 * j + 1)) +ℤ
    ((at b 0 *ℤ at w (8 + 2 * j)) +ℤ (at b 1 *ℤ at w (8 + 2 * j + 1))))

-- pair i of a row
abbrev pub pair_of : List ℤ → ℕ → List ℤ
pair_of row i = take 2 (drop (2 * i) row)

-- the sum of n products, of the numbers of column i from the first on
abbrev pub lane_sum : List ℤ → List (List ℤ) → ℕ → ℕ → ℕ → ℤ
lane_sum weights rows i first j =
    sum_of 4 (λ r. weight weights j r *ℤ in_pairs rows i (first + r))

-- the sum over a column of coefficients, at place n (8.6.4.2)
abbrev pub column_sum : ℕ → (ℕ → ℤ) → ℕ → ℤ
column_sum log2 c n = sum_of (2 ^ log2) (λ k. transMatrix log2 k n *ℤ c k)

-- its odd half, of the coefficients with odd numbers
abbrev pub odd_sum : ℕ → (ℕ → ℤ) → ℕ → ℤ
odd_sum half_log2 c n =
    sum_of (2 ^ half_log2) (λ k. transMatrix (half_log2 + 1) (2 * k + 1) n *ℤ c k)

-- The order in which the 2^(d + 2) coefficients of a column stand: those with odd numbers first,
-- then the odd ones of the others, and so on, and four at the end.
abbrev pub in_order : ℕ → (ℕ → ℤ) → ℕ → ℤ
in_order zero c k = c k
in_order (suc d) c k =
    cond (nat_eq (k % 2) 1) (c (k / 2))
    (in_order d (λ r. c (2 ^ (d + 2) + r)) (k / 2))

-- the weights of the four sums of a column of four
abbrev pub HasEven : List ℤ → Type 0
HasEven weights = (j r : ℕ) → j < 4 → r < 4 → weight weights j r ≡ transMatrix 2 r j

-- the weights of four places of an odd half, from place 4 g on, of four coefficients, from 4 q on
abbrev pub HasOdd : ℕ → ℕ → ℕ → List ℤ → Type 0
HasOdd log2 g q weights =
    (j r : ℕ) → j < 4 → r < 4 →
    weight weights j r ≡ transMatrix log2 (2 * (4 * q + r) + 1) (4 * g + j)

-- the weights of a side of 2^log2: those of four, and then the odd halves of each side up to it
pub record HasWeights (log2 : ℕ) (table : List (List ℤ)) : Type 0 where
  pub even : HasEven (table_row table 0)
  pub odd : (d g q : ℕ) → d + 3 ≤ log2 → g < 2 ^ d → q < 2 ^ d →
      HasOdd (d + 3) g q (table_row table ((4 ^ d + 2) / 3 + 2 ^ d * g + q))
  pub small : (i : ℕ) → Numbers (table_row table i)

-- numbers of column i, from those of row p on, have 16 bits: so many
abbrev pub HaveBits : ℕ → List (List ℤ) → ℕ → ℕ → Type 0
HaveBits count rows i p = (r : ℕ) → r < count → FitsSigned w16 (in_pairs rows i (2 * p + r))

-- and all but four are 0
abbrev pub AreFew : ℕ → List (List ℤ) → ℕ → ℕ → Type 0
AreFew count rows i p = (r : ℕ) → 4 ≤ r → r < count → in_pairs rows i (2 * p + r) ≡ pos 0

-- sums of the products of 8 numbers, from those of row p on
abbrev pub two_sums : List ℤ → List ℤ → List (List ℤ) → ℕ → ℕ → ℕ → ℤ
two_sums first second rows i p j =
    lane_sum first rows i (2 * p) j +ℤ lane_sum second rows i (2 * (p + 2)) j

-- the numbers of column i from those of row p on
abbrev pub numbers_from : List (List ℤ) → ℕ → ℕ → ℕ → ℤ
numbers_from rows i p r = in_pairs rows i (2 * p + r)

-- four places of the sums over a column that stands in order, from place n on
abbrev pub ColumnSums : ℕ → (ℕ → ℤ) → ℕ → List ℤ → Type 0
ColumnSums d c n lanes = FourLanes (λ j. column_sum (d + 2) (in_order d c) (n + j)) lanes

-- a mean of a column that stands in order, at place n, to the nearest of 16 bits
abbrev pub column_mean : ℕ → (ℕ → ℤ) → ℕ → ℕ → ℤ
column_mean d c shift n = clip16 (rounded (column_sum (d + 2) (in_order d c) n) shift)

-- what a pass writes: row i has the means of column i
abbrev pub pass_mean : ℕ → List (List ℤ) → ℕ → ℕ → ℤ
pass_mean d rows shift k =
    column_mean d (numbers_from rows (k / 2 ^ (d + 2)) 0) shift (k % 2 ^ (d + 2))
