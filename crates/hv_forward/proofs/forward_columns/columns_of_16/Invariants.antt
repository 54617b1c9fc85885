use Rattle.std.proofs.Common.{◌*◌}
use Rattle.hv_lanes.specs.Passes.{HasFirst}
use Rattle.hv_forward.specs.Forward.{columns_mean}
use Rattle.hv_forward.proofs.forward_columns.columns_of_16.Given as goal

abbrev pub invariant-loop-v : goal.invariant-loop-v
invariant-loop-v l = HasFirst (l.v * 16) (columns_mean 16 l.matrix l.rows l.shift) l.out
