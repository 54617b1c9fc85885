use Rattle.std.proofs.Common.{◌^◌, arith}
use Rattle.hv_sample_model.specs.IntraPrediction.{left, above}
use Rattle.hv_intra.specs.StraightModes.{straight_on}
use Rattle.hv_intra.proofs.RowLemmas.{rows_written}
use Rattle.hv_intra.proofs.straight.predict_vertical.Goals as goal

pub loop-y-preserved : goal.loop-y-preserved
loop-y-preserved c =
    rows_written (2 ^ c.args.neighbours.side.log2) c.count-n.result c.loop-y.y c.loop-y.out c.fill_vertical_row.new.row
    (λ x y. straight_on (above c.args.neighbours.side.log2 c.args.neighbours.line.now) (left c.args.neighbours.side.log2 c.args.neighbours.line.now) x y) c.count-n.ensures.value c.loop-y-test.true (omega arith)
    c.fill_vertical_row.auto.row c.loop-y.invariant c.fill_vertical_row.ensures
