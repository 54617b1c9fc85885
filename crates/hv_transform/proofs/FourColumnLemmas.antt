-- The means of the sums over the columns of a block of four, two columns at a time.
use Rattle.std.proofs.Common.{◌≡◌, ℕ, ◌+◌, ◌*◌, ◌/◌, ◌%◌, ◌<◌, ◌≤◌, List, ℤ, ◌*ℤ◌, arith, ap, ap₂, ◌∙◌, sym}
use Rattle.std.specs.Int.RustNames.{unsigned_abs}
use Rattle.hv_tables.specs.TransformMatrix.{transMatrix}
use Rattle.hv_lanes.specs.Lanes.{FourLanes, in_pairs, weight}
use Rattle.hv_lanes.proofs.SumLemmas.{sum_of_same}
use Rattle.hv_lanes.proofs.NumberLemmas.{small_number}
use Rattle.hv_lanes.proofs.FourLaneLemmas.{same_lanes}
use Rattle.hv_transform.specs.Columns.{lane_sum, column_sum, numbers_from, HasEven, HaveBits}
use Rattle.hv_transform.proofs.MeanLemmas.{column_small}

-- sum k of the columns 2 i and 2 i + 1
abbrev pub two_columns : List (List ℤ) → ℕ → ℕ → ℤ
two_columns rows i k = column_sum 2 (numbers_from rows ((8 * i + k) / 4) 0) ((8 * i + k) % 4)

sums_at : (w : List ℤ) (rows : List (List ℤ)) (i u j k : ℕ) → HasEven w → j < 4 → (8 * i + k) / 4 ≡ u → (8 * i + k) % 4 ≡ j → lane_sum w rows u 0 j ≡ two_columns rows i k
sums_at w rows i u j k has below column place =
    sum_of_same 4 (λ r. weight w j r *ℤ in_pairs rows u (0 + r)) (λ r. transMatrix 2 r j *ℤ numbers_from rows u 0 r)
    (λ r less. ap (λ a. a *ℤ in_pairs rows u (0 + r)) (has j r below less)) ∙
    sym (ap₂ (λ u n. column_sum 2 (numbers_from rows u 0) n) column place)

pub first_column : (w : List ℤ) (rows : List (List ℤ)) (i : ℕ) (v : List ℤ) → HasEven w → FourLanes (lane_sum w rows (2 * i) 0) v → FourLanes (two_columns rows i) v
first_column w rows i v has lanes =
    same_lanes (lane_sum w rows (2 * i) 0) (two_columns rows i) v
    (λ j below. sums_at w rows i (2 * i) j j has below (omega (arith, below)) (omega (arith, below)))
    lanes

pub second_column : (w : List ℤ) (rows : List (List ℤ)) (i : ℕ) (v : List ℤ) → HasEven w → FourLanes (lane_sum w rows (2 * i + 1) 0) v → FourLanes (λ j. two_columns rows i (4 + j)) v
second_column w rows i v has lanes =
    same_lanes (lane_sum w rows (2 * i + 1) 0) (λ j. two_columns rows i (4 + j)) v
    (λ j below. sums_at w rows i (2 * i + 1) j (4 + j) has below (omega (arith, below)) (omega (arith, below)))
    lanes

pub columns_small : (rows : List (List ℤ)) (i k : ℕ) → i < 2 → k < 8 → ((u : ℕ) → u < 4 → HaveBits 4 rows u 0) → unsigned_abs (two_columns rows i k) ≤ 1073741824
columns_small rows i k few below bits =
    let column : ℕ = (8 * i + k) / 4 in
    let small : unsigned_abs (two_columns rows i k) ≤ 67108864 =
    column_small 2 ((8 * i + k) % 4) (numbers_from rows column 0) (omega arith) (omega arith) (omega arith)
    (λ r less. small_number _ (bits column (omega (arith, few, below)) r less)) in
    omega (arith, small)
