-- The straight modes of the smaller luma blocks (8.4.4.2.6).
use Rattle.std.specs.Prelude.{ℕ, ◌+◌, cond, nat_eq}
use Rattle.hv_sample_model.specs.IntraPrediction.{along_edge}

-- the main side goes on along its own direction, and the block's edge follows the other side
abbrev pub straight_on : (ℕ → ℕ) → (ℕ → ℕ) → ℕ → ℕ → ℕ
straight_on main other along across =
    cond (nat_eq along 0) (along_edge main other across) (main (along + 1))
