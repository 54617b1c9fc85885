use Rattle.std.proofs.Common.{◌≡◌, take, drop, ap₂, ◌∙◌, arith}
use Rattle.std.specs.Int.{abs_diff}
use Rattle.hv_kernel.specs.Differences.{sad_of}
use Rattle.hv_kernel.proofs.PairLemmas.{sum_of_pairs-take_more}
use Rattle.hv_kernel.proofs.sums.add_sad_of_runs.Goals as goal

pub loop-at-preserved : goal.loop-at-preserved
loop-at-preserved g c =
    let at = c.loop-at.at in
    let more = sum_of_pairs-take_more abs_diff at g.row.N c.args.a.now c.args.b.now (omega arith) (omega arith) in
    let lanes : c.sad_of_lanes.result ≡ sad_of (take g.row.N (drop at c.args.a.now)) (take g.row.N (drop at c.args.b.now)) =
    c.sad_of_lanes.ensures.value ∙ ap₂ sad_of c.load.ensures c.load-in-loop-at.ensures in
    (omega (arith, more, lanes), omega arith, omega arith)
