use Rattle.std.proofs.Common.{◌*◌, ◌/◌, ◌%◌}
use Rattle.hv_inter_model.specs.Interpolation.{fL}
use Rattle.hv_interp.specs.Filters.{HasFirst, filtered_twice}
use Rattle.hv_interp.proofs.fractions.put_four.Given as goal

abbrev pub invariant-loop-below : goal.invariant-loop-below
invariant-loop-below l =
    HasFirst 0 (7776 * l.below) (λ k. filtered_twice (fL l.right) (fL (k / 7776)) l.window 104 96 (k % 7776)) l.out
