use Rattle.std.proofs.Common.{◌*◌}
use Rattle.hv_lanes.specs.Passes.{HasFirst}
use Rattle.hv_lanes.specs.Lanes.{at}
use Rattle.hv_transform.proofs.corner.narrow.Given as goal

abbrev pub invariant-loop-g : goal.invariant-loop-g
invariant-loop-g l = HasFirst (8 * l.g) (at l.numbers) l.out
