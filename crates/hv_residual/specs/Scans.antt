-- Scans (6.5.3 to 6.5.5) as tables whose entries are 8 * row + column.
use Rattle.std.specs.Prelude.{ℕ, ◌/◌, ◌%◌, ◌^◌, Bool, nat_lt, ◌&&◌}
use Rattle.hv_residual_model.specs.ScanOrder.{Position, at}

abbrev pub place_of : ℕ → Position
place_of entry = at (entry % 8) (entry / 8)

-- inside a block of side 2^log2
abbrev pub is_place : ℕ → ℕ → Bool
is_place log2 entry = nat_lt (entry % 8) (2 ^ log2) && nat_lt (entry / 8) (2 ^ log2)
