use Rattle.std.proofs.Common.{◌+◌, ◌-◌, ◌*◌, arith}
use Rattle.hv_intra.proofs.DcLemmas.{mean_is}
use Rattle.hv_intra.proofs.dc.mean.Goals as goal

pub returns : goal.returns
returns g c =
    let n = g.row.N in
    let s = c.args.neighbours in
    mean_is s.side.log2 n (3 * n + 1 - (2 * n + 1)) (2 * n - n)
    c.total.result c.total-2.result s.line.now c.requires.side s.count (omega arith) (omega arith)
    c.total.ensures.value c.total-2.ensures.value
