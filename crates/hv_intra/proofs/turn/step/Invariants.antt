use Rattle.std.proofs.Common.{◌*◌, slice_index}
use Rattle.hv_intra.specs.Blocks.{IsRow}
use Rattle.hv_intra.specs.Turns.{lowest_to_top}
use Rattle.hv_intra.proofs.turn.step.Given as goal

abbrev pub invariant-loop-i : goal.invariant-loop-i
invariant-loop-i g l =
    IsRow (32 * l.i) (λ j. slice_index l.from (lowest_to_top g.row.AREA j)) l.to
