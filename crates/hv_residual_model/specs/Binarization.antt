-- Binarizations (9.3.3) as scripts, and the bins that they read. A number's binarization is a list
-- of bins; how each bin is decoded is said where a binarization is used.
use Rattle.std.specs.Prelude.{ℕ, zero, suc, ◌+◌, ◌-◌, ◌*◌, ◌/◌, ◌%◌, ◌^◌, true, false, cond, nat_eq, nat_lt, List, [], ◌∷◌, ◌++◌}
use Rattle.hv_stream_model.specs.Scripts.{Done, Ask, Fail, ◌>>=◌}
use Rattle.hv_residual_model.specs.UnitBins.{UnitQuestion, InBypass, UnitBin, UnitScript, unit_bin}

-- ---- fixed length: the lowest `length` binary digits in bypass, the highest first

abbrev pub fixed_length : ℕ → UnitScript ℕ
fixed_length zero = Done 0
fixed_length (suc length) =
    Ask InBypass (λ digit.
    fixed_length length >>= λ rest. Done (cond digit (2 ^ length) 0 + rest))

abbrev pub fixed_length_bins : ℕ → ℕ → List UnitBin
fixed_length_bins zero value = []
fixed_length_bins (suc length) value =
    unit_bin InBypass (nat_eq (value / 2 ^ length % 2) 1) ∷ fixed_length_bins length value

-- ---- truncated unary: as many ones as the number says, and then a zero where there are fewer than
-- cMax ones. The bins are numbered from binIdx on.

unfoldable pub truncated_unary : (ℕ → UnitQuestion) → ℕ → ℕ → UnitScript ℕ
truncated_unary question zero binIdx = Done 0
truncated_unary question (suc cMax) binIdx =
    Ask (question binIdx) (λ one.
    cond one
    (truncated_unary question cMax (suc binIdx) >>= λ rest. Done (suc rest))
    (Done 0))

unfoldable pub truncated_unary_bins : (ℕ → UnitQuestion) → ℕ → ℕ → ℕ → List UnitBin
truncated_unary_bins question zero binIdx value = []
truncated_unary_bins question (suc cMax) binIdx zero = unit_bin (question binIdx) false ∷ []
truncated_unary_bins question (suc cMax) binIdx (suc value) =
    unit_bin (question binIdx) true ∷ truncated_unary_bins question cMax (suc binIdx) value

-- ---- Exp-Golomb of order k, in bypass. A number with `fuel` ones in front, or more, is refused.

unfoldable pub exp_golomb : ℕ → ℕ → UnitScript ℕ
exp_golomb zero k = Fail
exp_golomb (suc fuel) k =
    Ask InBypass (λ one.
    cond one
    (exp_golomb fuel (suc k) >>= λ rest. Done (2 ^ k + rest))
    (fixed_length k))

unfoldable pub exp_golomb_bins : ℕ → ℕ → ℕ → List UnitBin
exp_golomb_bins zero k value = []
exp_golomb_bins (suc fuel) k value =
    cond (nat_lt value (2 ^ k))
    (unit_bin InBypass false ∷ fixed_length_bins k value)
    (unit_bin InBypass true ∷ exp_golomb_bins fuel (suc k) (value - 2 ^ k))

-- ---- coeff_abs_level_remaining (9.3.3.11): a prefix of at most four ones, and behind four ones
-- Exp-Golomb of order cRiceParam + 1. No level of 16 bits needs 32 ones behind the prefix.

abbrev pub bypass_at : ℕ → UnitQuestion
bypass_at binIdx = InBypass

abbrev pub remaining_suffix : ℕ → ℕ → UnitScript ℕ
remaining_suffix cRiceParam prefix =
    cond (nat_lt prefix 4)
    (fixed_length cRiceParam >>= λ rest. Done (prefix * 2 ^ cRiceParam + rest))
    (exp_golomb 32 (suc cRiceParam) >>= λ rest. Done (4 * 2 ^ cRiceParam + rest))

unfoldable pub coeff_abs_level_remaining : ℕ → UnitScript ℕ
coeff_abs_level_remaining cRiceParam =
    truncated_unary bypass_at 4 0 >>= λ prefix. remaining_suffix cRiceParam prefix

unfoldable pub remaining_bins : ℕ → ℕ → List UnitBin
remaining_bins cRiceParam value =
    cond (nat_lt (value / 2 ^ cRiceParam) 4)
    (truncated_unary_bins bypass_at 4 0 (value / 2 ^ cRiceParam) ++
    fixed_length_bins cRiceParam value)
    (truncated_unary_bins bypass_at 4 0 4 ++
    exp_golomb_bins 32 (suc cRiceParam) (value - 4 * 2 ^ cRiceParam))
