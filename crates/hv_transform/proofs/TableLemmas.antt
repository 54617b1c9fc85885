-- The tables of weights are the transform matrix's, computed over all of them.
use Rattle.std.proofs.Common.{Bool, List, arith, true, ℕ, ℤ, ◌&&◌, ◌*◌, ◌+◌, ◌-◌, ◌<◌, ◌^◌, ◌≡◌}
use Rattle.std.specs.Ordering.{int_eq}
use Rattle.hv_tables.specs.TransformMatrix.{transMatrix}
use Rattle.hv_lanes.specs.Lanes.{weight}
use Rattle.hv_lemmas.proofs.ComputedLemmas.{all_below, holds_below}
use Rattle.hv_lanes.proofs.TableLemmas.{all_list, is_light, row_of_half, rows_of_light}
use Rattle.hv_lanes.specs.Passes.{table_row}
use Rattle.hv_tables.proofs.ComputedLemmas.{equal_numbers}
use Rattle.hv_transform.specs.Columns.{HasEven, HasOdd, HasWeights}
use Rattle.std.proofs.lemmas.Bool.{and_parts}

abbrev is_even : List ℤ → ℕ → ℕ → Bool
is_even w j r = int_eq (weight w j r) (transMatrix 2 r j)

abbrev has_even : List ℤ → Bool
has_even w = all_below 4 (λ j. all_below 4 (is_even w j))

abbrev is_odd : List ℤ → ℕ → ℕ → ℕ → ℕ → ℕ → Bool
is_odd w log2 g q j r = int_eq (weight w j r) (transMatrix log2 (2 * (4 * q + r) + 1) (4 * g + j))

abbrev has_odd : List ℤ → ℕ → ℕ → ℕ → Bool
has_odd w log2 g q = all_below 4 (λ j. all_below 4 (is_odd w log2 g q j))

abbrev has_half : List (List ℤ) → ℕ → Bool
has_half table d = all_below (2 ^ d) (λ g. all_below (2 ^ d) (λ q. has_odd (table_row table (row_of_half d g q)) (d + 3) g q))

abbrev pub has_weights : ℕ → List (List ℤ) → Bool
has_weights log2 table = has_even (table_row table 0) && (all_below (log2 - 2) (has_half table) && all_list is_light table)

even_is : (w : List ℤ) → has_even w ≡ true → HasEven w
even_is w h j r p q = equal_numbers _ _ (holds_below 4 (is_even w j) (holds_below 4 (λ j. all_below 4 (is_even w j)) h j p) r q)

odd_is : (w : List ℤ) (log2 g q : ℕ) → has_odd w log2 g q ≡ true → HasOdd log2 g q w
odd_is w log2 g q h j r s t = equal_numbers _ _ (holds_below 4 (is_odd w log2 g q j) (holds_below 4 (λ j. all_below 4 (is_odd w log2 g q j)) h j s) r t)

half_is : (table : List (List ℤ)) (d g q : ℕ) → has_half table d ≡ true → g < 2 ^ d → q < 2 ^ d → HasOdd (d + 3) g q (table_row table (row_of_half d g q))
half_is table d g q h s t =
    let p : ℕ → ℕ → Bool = λ g q. has_odd (table_row table (row_of_half d g q)) (d + 3) g q in
    odd_is (table_row table (row_of_half d g q)) (d + 3) g q (holds_below (2 ^ d) (p g) (holds_below (2 ^ d) (λ g. all_below (2 ^ d) (p g)) h g s) q t)

pub weights_are : (log2 : ℕ) (table : List (List ℤ)) → has_weights log2 table ≡ true → HasWeights log2 table
weights_are log2 table h =
    let rest = and_parts _ _ (and_parts (has_even (table_row table 0)) _ h).1 in
    record {
      even = even_is (table_row table 0) (and_parts _ _ h).0;
      odd = λ d g q inside s t. half_is table d g q (holds_below (log2 - 2) (has_half table) rest.0 d (omega (arith, inside))) s t;
      small = rows_of_light table rest.1;
    }
