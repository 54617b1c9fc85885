-- The tables of the weights of rows, and of the matrix, are the transform matrix's, computed over all of them.
use Rattle.std.proofs.Common.{Bool, List, arith, true, ℕ, ℤ, ◌&&◌, ◌*◌, ◌+◌, ◌-◌, ◌<◌, ◌^◌, ◌≡◌}
use Rattle.std.specs.Ordering.{int_eq}
use Rattle.hv_tables.specs.TransformMatrix.{transMatrix}
use Rattle.hv_lanes.specs.Lanes.{weight}
use Rattle.hv_lemmas.proofs.ComputedLemmas.{all_below, holds_below}
use Rattle.hv_lanes.proofs.TableLemmas.{all_list, is_light, row_of_half, rows_of_light}
use Rattle.hv_lanes.specs.Passes.{table_row}
use Rattle.hv_tables.proofs.ComputedLemmas.{equal_numbers}
use Rattle.hv_forward.specs.Forward.{HasFour, HasNumbers, HasOddRow, HasRowWeights}
use Rattle.std.proofs.lemmas.Bool.{and_parts}

-- the same of the weights of rows
abbrev is_four : List ℤ → ℕ → ℕ → Bool
is_four w j r = int_eq (weight w j r) (transMatrix 2 j r)

abbrev has_four : List ℤ → Bool
has_four w = all_below 4 (λ j. all_below 4 (is_four w j))

abbrev is_odd_row : List ℤ → ℕ → ℕ → ℕ → ℕ → ℕ → Bool
is_odd_row w log2 g q j r = int_eq (weight w j r) (transMatrix log2 (2 * (4 * g + j) + 1) (4 * q + r))

abbrev has_odd_row : List ℤ → ℕ → ℕ → ℕ → Bool
has_odd_row w log2 g q = all_below 4 (λ j. all_below 4 (is_odd_row w log2 g q j))

abbrev has_row_half : List (List ℤ) → ℕ → Bool
has_row_half table d = all_below (2 ^ d) (λ g. all_below (2 ^ d) (λ q. has_odd_row (table_row table (row_of_half d g q)) (d + 3) g q))

abbrev pub has_row_weights : ℕ → List (List ℤ) → Bool
has_row_weights log2 table = has_four (table_row table 0) && (all_below (log2 - 2) (has_row_half table) && all_list is_light table)

four_is : (w : List ℤ) → has_four w ≡ true → HasFour w
four_is w h j r p q = equal_numbers _ _ (holds_below 4 (is_four w j) (holds_below 4 (λ j. all_below 4 (is_four w j)) h j p) r q)

odd_row_is : (w : List ℤ) (log2 g q : ℕ) → has_odd_row w log2 g q ≡ true → HasOddRow log2 g q w
odd_row_is w log2 g q h j r s t = equal_numbers _ _ (holds_below 4 (is_odd_row w log2 g q j) (holds_below 4 (λ j. all_below 4 (is_odd_row w log2 g q j)) h j s) r t)

row_half_is : (table : List (List ℤ)) (d g q : ℕ) → has_row_half table d ≡ true → g < 2 ^ d → q < 2 ^ d → HasOddRow (d + 3) g q (table_row table (row_of_half d g q))
row_half_is table d g q h s t =
    let p : ℕ → ℕ → Bool = λ g q. has_odd_row (table_row table (row_of_half d g q)) (d + 3) g q in
    odd_row_is (table_row table (row_of_half d g q)) (d + 3) g q (holds_below (2 ^ d) (p g) (holds_below (2 ^ d) (λ g. all_below (2 ^ d) (p g)) h g s) q t)

pub row_weights_are : (log2 : ℕ) (table : List (List ℤ)) → has_row_weights log2 table ≡ true → HasRowWeights log2 table
row_weights_are log2 table h =
    let rest = and_parts _ _ (and_parts (has_four (table_row table 0)) _ h).1 in
    record {
      four = four_is (table_row table 0) (and_parts _ _ h).0;
      odd = λ d g q inside s t. row_half_is table d g q (holds_below (log2 - 2) (has_row_half table) rest.0 d (omega (arith, inside))) s t;
      small = rows_of_light table rest.1;
    }

pub numbers_are : (table : List (List ℤ)) → all_list is_light table ≡ true → HasNumbers table
numbers_are table h = record { each = rows_of_light table h }
