use Rattle.std.proofs.Common.{◌≡◌, take, drop, ap₂, ◌∙◌, arith}
use Rattle.hv_kernel.specs.Differences.{squared_difference}
use Rattle.hv_kernel.specs.Differences.{ssd_of}
use Rattle.hv_kernel.proofs.PairLemmas.{sum_of_pairs-take_more}
use Rattle.hv_kernel.proofs.sums.add_ssd_of_runs.Goals as goal

pub loop-at-preserved : goal.loop-at-preserved
loop-at-preserved g c =
    let at = c.loop-at.at in
    let more = sum_of_pairs-take_more squared_difference at g.row.N c.args.a.now c.args.b.now (omega arith) (omega arith) in
    let lanes : c.ssd_of_lanes.result ≡ ssd_of (take g.row.N (drop at c.args.a.now)) (take g.row.N (drop at c.args.b.now)) =
    c.ssd_of_lanes.ensures.value ∙ ap₂ ssd_of c.load.ensures c.load-in-loop-at.ensures in
    (omega (arith, more, lanes), omega arith, omega arith)
