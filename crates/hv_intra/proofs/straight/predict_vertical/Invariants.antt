use Rattle.std.proofs.Common.{◌^◌}
use Rattle.hv_intra.specs.Blocks.{HasRows}
use Rattle.hv_sample_model.specs.IntraPrediction.{left, above}
use Rattle.hv_intra.specs.StraightModes.{straight_on}
use Rattle.hv_intra.proofs.straight.predict_vertical.Given as goal

abbrev pub invariant-loop-y : goal.invariant-loop-y
invariant-loop-y l = HasRows (2 ^ l.neighbours.side.log2) l.y (λ x y. straight_on (above l.neighbours.side.log2 l.neighbours.line.now) (left l.neighbours.side.log2 l.neighbours.line.now) x y) l.out
