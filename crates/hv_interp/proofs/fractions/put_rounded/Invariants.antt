use Rattle.std.proofs.Common.{◌*◌}
use Rattle.hv_inter_model.specs.Interpolation.{weighted_sample}
use Rattle.hv_interp.specs.Filters.{HasFirst}
use Rattle.hv_interp.specs.Lanes.{lane}
use Rattle.hv_interp.proofs.fractions.put_rounded.Given as goal

abbrev pub invariant-loop-g : goal.invariant-loop-g
invariant-loop-g l = HasFirst 0 (16 * l.g) (λ k. weighted_sample (lane l.sums k)) l.out
