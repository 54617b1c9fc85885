-- Samples between reference samples, from what is made of these once a block.
use Rattle.std.specs.Prelude.{ℕ, ◌+◌, ◌-◌, ◌*◌, ◌/◌, ◌%◌, List, slice_index}

-- the base of a reference sample
abbrev pub base : ℕ → ℕ
base a = 256 * a + 128

-- the step from it to the next one, in 16 bits
abbrev pub step : ℕ → ℕ → ℕ
step a b = (b + (65536 - a)) % 65536

-- a weight, in 256ths, of a step behind a base
abbrev pub stepped : ℕ → ℕ → ℕ → ℕ
stepped weight b s = (b + weight * s % 65536) % 65536 / 256

-- those at a place
abbrev pub base_at : List ℕ → ℕ → ℕ
base_at samples k = base (slice_index samples k)

abbrev pub step_at : List ℕ → List ℕ → ℕ → ℕ
step_at samples next k = step (slice_index samples k) (slice_index next k)

-- the step from the sample at a place to the next one
abbrev pub step_from : List ℕ → ℕ → ℕ
step_from samples k = step (slice_index samples k) (slice_index samples (k + 1))

abbrev pub stepped_at : List ℕ → List ℕ → ℕ → ℕ → ℕ
stepped_at bases steps weight k = stepped weight (slice_index bases k) (slice_index steps k)

-- ---- Intra_Planar

-- the sum above the first row, from the neighbour above and the weight of the one behind the row
abbrev pub first_sum : ℕ → ℕ → ℕ → ℕ
first_sum right a r = (128 * a + r * right + 128) % 65536

-- the step to the next row, from the neighbour above
abbrev pub planar_step : ℕ → ℕ → ℕ → ℕ
planar_step scale lower a = (lower + (65536 - scale * a % 65536)) % 65536

abbrev pub wrapped_sum : ℕ → ℕ → ℕ
wrapped_sum a b = (a + b) % 65536
