-- What the filters of interpolation write, place by place. A block has n columns, and place k of it
-- is in column k % n of row k / n.
use Rattle.std.specs.Prelude.{cond, nat_eq, ◌*ℤ◌, ◌≡◌, ℕ, ◌+◌, ◌-◌, ◌*◌, ◌/◌, ◌%◌, ◌<◌, ◌≤◌, List, [], ◌∷◌, length, slice_index_or, take, ℤ, pos}
use Rattle.std.specs.Int.{int_shr}
use Rattle.std.specs.Int.RustNames.{unsigned_abs}
use Rattle.hv_inter_model.specs.Interpolation.{weighted, weighted_sample}

-- the first elements of a list are f 0, f 1 and so on
abbrev pub HasFirst : {A : Type 0} → A → ℕ → (ℕ → A) → List A → Type 0
HasFirst absent count f list = (k : ℕ) → k < count → slice_index_or list k absent ≡ f k

-- the sizes of taps, summed
abbrev pub weight_of : List ℤ → ℕ
weight_of [] = 0
weight_of (tap ∷ taps) = unsigned_abs tap + weight_of taps

-- the sum of taps times samples, each in its place
abbrev pub placed_sum : List ℤ → List ℕ → (ℕ → ℕ) → ℤ
placed_sum taps samples place = weighted taps (λ k. pos (slice_index_or samples (place k) 0))

-- the same of the first taps alone
unfoldable pub placed_sum_of : ℕ → List ℤ → List ℕ → (ℕ → ℕ) → ℤ
placed_sum_of count taps samples place = placed_sum (take count taps) samples place

-- from place `at` on, each `step` behind the other
abbrev pub strided_sum : List ℤ → List ℕ → ℕ → ℕ → ℤ
strided_sum taps samples at step = placed_sum taps samples (λ k. at + k * step)

abbrev pub strided_sum_of : ℕ → List ℤ → List ℕ → ℕ → ℕ → ℤ
strided_sum_of count taps samples at step = placed_sum_of count taps samples (λ k. at + k * step)

-- two neighbours for each pair of taps, those of each pair `step` behind the ones before
abbrev pub paired_place : ℕ → ℕ → ℕ → ℕ
paired_place at step k = at + k / 2 * step + k % 2

-- the same of numbers with a sign
abbrev pub strided_total : List ℤ → List ℤ → ℕ → ℕ → ℤ
strided_total taps numbers at step =
    weighted taps (λ k. slice_index_or numbers (at + k * step) (pos 0))

unfoldable pub strided_total_of : ℕ → List ℤ → List ℤ → ℕ → ℕ → ℤ
strided_total_of count taps numbers at step = strided_total (take count taps) numbers at step

-- the place in a window of place k of a block
abbrev pub place_of : ℕ → ℕ → ℕ → ℕ
place_of n stride k = k / n * stride + k % n

-- the sample at place k of rows of n samples that are woven with the next
abbrev pub woven_place : ℕ → ℕ → ℕ → ℕ
woven_place n stride k = (k / (2 * n) + k % (2 * n) % 2) * stride + k % (2 * n) / 2

-- what a block has where so many taps meet samples a step from one another
abbrev pub filtered : List ℤ → List ℕ → ℕ → ℕ → ℕ → ℕ → ℕ
filtered taps samples stride step n k =
    weighted_sample (strided_sum taps samples (place_of n stride k) step)

-- all these samples are there
abbrev pub HoldsTaps : List ℕ → ℕ → ℕ → ℕ → ℕ → ℕ → Type 0
HoldsTaps samples stride step taps columns rows =
    (y : ℕ) → y < rows → y * stride + (taps - 1) * step + columns ≤ length samples

-- the same, of the sums along rows
abbrev pub filtered_twice : List ℤ → List ℤ → List ℕ → ℕ → ℕ → ℕ → ℕ
filtered_twice across down samples stride n k =
    weighted_sample (int_shr
    (weighted down (λ j. strided_sum across samples (place_of n stride k + j * stride) 1))
    6)

-- the sample of 14 bits in column x of row y, of samples that begin so many columns and rows before
abbrev pub interpolated : ℕ → ℕ → ℕ → List ℤ → List ℤ → (ℕ → ℕ → ℤ) → ℕ → ℕ → ℤ
interpolated before xFrac yFrac across down A x y =
    cond (nat_eq xFrac 0)
    (cond (nat_eq yFrac 0)
    (A (x + before) (y + before) *ℤ pos 64)
    (weighted down (λ k. A (x + before) (y + k))))
    (cond (nat_eq yFrac 0)
    (weighted across (λ k. A (x + k) (y + before)))
    (int_shr (weighted down (λ j. weighted across (λ i. A (x + i) (y + j)))) 6))

-- a block of them, rounded to 8 bits
abbrev pub predicted : ℕ → ℕ → ℕ → List ℤ → List ℤ → (ℕ → ℕ → ℤ) → ℕ → ℕ → ℕ
predicted before xFrac yFrac across down A n k =
    weighted_sample (interpolated before xFrac yFrac across down A (k % n) (k / n))
