use Rattle.hv_intra.specs.Blocks.{IsRow}
use Rattle.hv_sample_model.specs.IntraPrediction.{left, above}
use Rattle.hv_intra.specs.StraightModes.{straight_on}
use Rattle.hv_intra.proofs.straight.fill_vertical_row.Given as goal

abbrev pub invariant-loop-x : goal.invariant-loop-x
invariant-loop-x l = IsRow l.x (λ x. straight_on (above l.neighbours.side.log2 l.neighbours.line.now) (left l.neighbours.side.log2 l.neighbours.line.now) x l.y) l.row
