use Rattle.std.proofs.Common.{◌+◌, ◌-◌, ◌*◌, ◌∙◌, arith}
use Rattle.hv_sample_model.specs.IntraPrediction.{edged}
use Rattle.hv_intra.proofs.RowLemmas.{rows_more, row_below, length-part}
use Rattle.hv_intra.proofs.dc.fill_with_edges.Goals as goal

pub loop-y-preserved : goal.loop-y-preserved
loop-y-preserved g c =
    let n = g.row.N in
    let y = c.loop-y.y in
    let s = c.args.neighbours in
    let m = y * n + n - y * n in
    let room = row_below y n n c.loop-y-test.true in
    let long = c.fill_row.auto.row ∙ length-part (y * n) m c.loop-y.out (omega (arith, room)) in
    rows_more n y m c.loop-y.out c.fill_row.new.row (edged c.args.value s.side.log2 s.line.now)
    (omega (arith, long)) (omega (arith, room)) c.loop-y.invariant c.fill_row.ensures
