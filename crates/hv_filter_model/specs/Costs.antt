-- What a choice of the encoder costs, and the first least cost.
use Rattle.std.specs.Prelude.{ℕ, ◌+◌, ◌*◌, ◌/◌, ◌%◌, ◌^◌, cond, nat_lt, List, [], ◌∷◌, slice_index_or}

-- the weight of a bin at a quantiser, in 16ths of a squared difference
abbrev pub bin_weight : ℕ → ℕ
bin_weight qp = slice_index_or (9 ∷ 11 ∷ 14 ∷ []) (qp % 3) 0 * 2 ^ (qp / 3) / 16

-- of a sum of squared differences and a number of bins
abbrev pub cost : ℕ → ℕ → ℕ → ℕ
cost qp squares bins = 16 * squares + bin_weight qp * bins

-- the second of two where it costs less, else the first
abbrev pub cheaper : {A : Type 0} → (A → ℕ) → A → A → A
cheaper cost_of first second = cond (nat_lt (cost_of second) (cost_of first)) second first

-- of one and then others, the earliest of those of least cost
abbrev pub first_least : {A : Type 0} → (A → ℕ) → A → List A → A
first_least cost_of first [] = first
first_least cost_of first (next ∷ rest) = first_least cost_of (cheaper cost_of first next) rest
