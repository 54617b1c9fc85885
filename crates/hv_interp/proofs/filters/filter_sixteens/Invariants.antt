use Rattle.std.proofs.Common.{◌*◌}
use Rattle.std.specs.Int.{int_shr}
use Rattle.hv_inter_model.specs.Interpolation.{weighted_sample}
use Rattle.hv_interp.specs.Filters.{HasFirst, strided_total}
use Rattle.hv_interp.proofs.filters.filter_sixteens.Given as goal

abbrev pub invariant-loop-g : goal.invariant-loop-g
invariant-loop-g g l =
    HasFirst 0 (16 * l.g) (λ k. weighted_sample (int_shr (strided_total l.taps l.sums k l.size) 6)) l.out
