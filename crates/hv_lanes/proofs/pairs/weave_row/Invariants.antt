use Rattle.std.proofs.Common.{◌*◌}
use Rattle.hv_lanes.specs.Passes.{HasFirst}
use Rattle.hv_lanes.specs.Lanes.{woven}
use Rattle.hv_lanes.proofs.pairs.weave_row.Given as goal

abbrev pub invariant-loop-g : goal.invariant-loop-g
invariant-loop-g l = HasFirst (16 * l.g) (woven l.first l.second) l.out
