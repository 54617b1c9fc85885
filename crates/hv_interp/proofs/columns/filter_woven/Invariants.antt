use Rattle.std.proofs.Common.{◌*◌}
use Rattle.hv_inter_model.specs.Interpolation.{weighted_sample}
use Rattle.hv_interp.specs.Filters.{HasFirst, paired_place, placed_sum}
use Rattle.hv_interp.proofs.columns.filter_woven.Given as goal

abbrev pub invariant-loop-g : goal.invariant-loop-g
invariant-loop-g g l =
    HasFirst 0 (32 * l.g) (λ k. weighted_sample (placed_sum l.taps l.woven (paired_place (2 * k) (4 * l.size)))) l.out
