-- Context variables as states of one number each.
use Rattle.std.specs.Prelude.{ℕ, ◌*◌, ◌/◌, ◌%◌, nat_eq, ℤ, pos, ◌-ℤ◌}
use Rattle.hv_entropy_model.specs.Contexts.{ContextVariable}

-- a state is 2 * pStateIdx + valMps
abbrev pub variable_of : ℕ → ContextVariable
variable_of state = record { pStateIdx = state / 2; valMps = nat_eq (state % 2) 1 }

-- the line on which a variable starts: how steep it is, and where it stands at quantiser 0
abbrev pub slope_of : ℕ → ℤ
slope_of initValue = pos (initValue / 16 * 5) -ℤ pos 45

abbrev pub offset_of : ℕ → ℤ
offset_of initValue = pos (initValue % 16 * 8) -ℤ pos 16
