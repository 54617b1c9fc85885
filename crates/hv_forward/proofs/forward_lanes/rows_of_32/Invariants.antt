use Rattle.std.proofs.Common.{◌*◌}
use Rattle.hv_lanes.specs.Passes.{HasFirst}
use Rattle.hv_forward.specs.Forward.{rows_mean}
use Rattle.hv_forward.proofs.forward_lanes.rows_of_32.Given as goal

abbrev pub invariant-loop-y : goal.invariant-loop-y
invariant-loop-y l = HasFirst (l.y * 32) (rows_mean 5 l.block l.shift) l.out
