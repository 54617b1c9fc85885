-- What tables of contexts say of a position (9.3.4.2.5).
use Rattle.std.specs.Prelude.{ℕ, ◌+◌, ◌*◌, Bool, nat_lt, slice_index_or}
use Rattle.hv_residual_model.specs.ScanOrder.{Position}
use Rattle.hv_residual_model.specs.ResidualContexts.{ctxIdxMap}

-- ctxIdxMap at a position
abbrev pub of_map : Position → ℕ
of_map P = slice_index_or ctxIdxMap (4 * P.y + P.x) 0

abbrev pub is_below : ℕ → ℕ → Bool
is_below limit n = nat_lt n limit
