use Rattle.std.proofs.Common.{◌*◌}
use Rattle.hv_lanes.specs.Passes.{HasFirst}
use Rattle.hv_transform.specs.Columns.{pass_mean}
use Rattle.hv_transform.proofs.inverse_passes.pass_32.Given as goal

abbrev pub invariant-loop-i : goal.invariant-loop-i
invariant-loop-i g l = HasFirst (l.i * 32) (pass_mean 3 l.rows l.shift) l.out
