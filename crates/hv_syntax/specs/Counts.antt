-- How many bins parts of coding units have.
use Rattle.std.specs.Prelude.{ℕ, ◌+◌, ◌-◌, cond, nat_lt, length}
use Rattle.hv_residual_model.specs.Binarization.{exp_golomb_bins}

-- behind abs_mvd_greater0_flag of a component of this magnitude
abbrev pub magnitude_count : ℕ → ℕ
magnitude_count m =
    cond (nat_lt 0 m)
    (cond (nat_lt 1 m) (2 + length (exp_golomb_bins 32 1 (m - 2))) 2)
    0
