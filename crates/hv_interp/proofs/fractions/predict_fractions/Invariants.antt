use Rattle.std.proofs.Common.{◌*◌, ◌/◌, ◌%◌}
use Rattle.hv_inter_model.specs.Interpolation.{fL}
use Rattle.hv_interp.specs.Filters.{HasFirst, filtered_twice}
use Rattle.hv_interp.proofs.fractions.predict_fractions.Given as goal

abbrev pub invariant-loop-right : goal.invariant-loop-right
invariant-loop-right l =
    HasFirst 0 (31104 * l.right) (λ k. filtered_twice (fL (k / 31104)) (fL (k % 31104 / 7776)) l.window 104 96 (k % 7776)) l.out
