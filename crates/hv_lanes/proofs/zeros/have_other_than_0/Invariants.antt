use Rattle.std.proofs.Common.{◌≡◌, ◌*◌, false, take}
use Rattle.std.specs.List.{list_any}
use Rattle.hv_lanes.specs.Ranges.{is_other_than_0}
use Rattle.hv_lanes.proofs.zeros.have_other_than_0.Given as goal

abbrev pub invariant-loop-g : goal.invariant-loop-g
invariant-loop-g l = list_any is_other_than_0 (take (8 * l.g) l.numbers) ≡ false

abbrev pub invariant-loop-i : goal.invariant-loop-i
invariant-loop-i l = list_any is_other_than_0 (take l.i l.numbers) ≡ false
