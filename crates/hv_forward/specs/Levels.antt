-- Levels, by the factor of their coefficients, what is added to the size, and the shift.
use Rattle.std.specs.Prelude.{ℕ, ℤ, ◌*◌, ◌+◌, ◌/◌, ◌^◌}
use Rattle.std.specs.Int.RustNames.{unsigned_abs}
use Rattle.hv_sample_model.specs.Quantisation.{with_sign_of}
use Rattle.hv_lemmas.specs.Clipping.{clip16}

-- a product by 2^shift, where the offset is added to its size and the rest is left out
abbrev pub rounded_level : ℕ → ℕ → ℤ → ℤ
rounded_level offset shift z = with_sign_of z ((unsigned_abs z + offset) / 2 ^ shift)

-- the level of a coefficient
abbrev pub level_by : ℕ → ℕ → ℕ → ℤ → ℤ
level_by factor offset shift z =
    clip16 (with_sign_of z ((unsigned_abs z * factor + offset) / 2 ^ shift))
