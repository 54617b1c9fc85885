-- Eight sums in lanes.
use Rattle.std.specs.Prelude.{◌≡◌, ◌+◌, ◌*◌, ◌/◌, ◌%◌, ◌<◌, ◌≤◌, length, ℕ, List, slice_index_or, ℤ, pos, ◌+ℤ◌, ◌*ℤ◌}
use Rattle.std.specs.Int.RustNames.{unsigned_abs}
use Rattle.hv_interp.specs.Filters.{placed_sum_of, strided_total_of}

abbrev pub lane : List ℤ → ℕ → ℤ
lane lanes j = slice_index_or lanes j (pos 0)

-- a lane and a tap times a sample
abbrev pub with_tap : List ℤ → ℤ → List ℕ → ℕ → ℤ
with_tap lanes tap samples j = lane lanes j +ℤ (tap *ℤ pos (slice_index_or samples j 0))

-- a lane and two taps times a number of each of two rows
abbrev pub with_pair : List ℤ → List ℤ → List ℤ → List ℤ → ℕ → ℤ
with_pair lanes taps first second j =
    lane lanes j +ℤ ((lane taps 0 *ℤ lane first j) +ℤ (lane taps 1 *ℤ lane second j))

-- two taps times two neighbours
abbrev pub of_neighbours : List ℤ → List ℕ → ℕ → ℤ
of_neighbours taps samples j =
    (lane taps (2 * j) *ℤ pos (slice_index_or samples (2 * j) 0)) +ℤ
    (lane taps (2 * j + 1) *ℤ pos (slice_index_or samples (2 * j + 1) 0))

-- each pair of taps eight times, one pair behind the other
abbrev pub AreSpread : ℕ → List ℤ → List ℤ → Type 0
AreSpread count taps spread =
    (k : ℕ) → k < 8 * count → lane spread k ≡ lane taps (k / 16 * 2 + k % 2)

-- the taps of each of eight pairs weigh 112 at most
abbrev pub ArePairsLight : List ℤ → Type 0
ArePairsLight taps =
    (j : ℕ) → j < 8 → unsigned_abs (lane taps (2 * j)) + unsigned_abs (lane taps (2 * j + 1)) ≤ 112

-- eight lanes are the sums of the first taps times samples, tap k of lane j in its place
pub record AreSums (count : ℕ) (taps : List ℤ) (samples : List ℕ) (place : ℕ → ℕ → ℕ)
    (lanes : List ℤ) : Type 0 where
  pub eight : length lanes ≡ 8
  pub each : (j : ℕ) → j < 8 → lane lanes j ≡ placed_sum_of count taps samples (place j)

-- eight lanes are the sums of the first taps times numbers with a sign, from place `at` and the
-- next seven on
pub record AreTotals (count : ℕ) (taps numbers : List ℤ) (at step : ℕ) (lanes : List ℤ) :
    Type 0 where
  pub eight : length lanes ≡ 8
  pub each : (j : ℕ) → j < 8 → lane lanes j ≡ strided_total_of count taps numbers (at + j) step
