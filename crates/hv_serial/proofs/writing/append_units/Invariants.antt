-- The first units are appended.
use Rattle.std.proofs.Common.{◌≡◌, ◌++◌, flat_map, take}
use Rattle.hv_serial.proofs.writing.append_units.Given as goal

abbrev pub invariant-loop-unit : goal.invariant-loop-unit
invariant-loop-unit l =
    l.bytes.items ≡ l.initial.bytes.items ++ flat_map (λ unit. unit) (take l.unit-index l.output.slices)
