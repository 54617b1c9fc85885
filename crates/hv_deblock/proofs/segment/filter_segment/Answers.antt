use Rattle.std.proofs.Common.{◌+◌}
use Rattle.hv_deblock.proofs.SegmentLemmas.{nothing_filtered}
use Rattle.hv_deblock.proofs.segment.filter_segment.Goals as goal

pub returns-then-strength-eq0 : goal.returns-then-strength-eq0
returns-then-strength-eq0 g c =
    nothing_filtered c.args.component g.E.Edges.direction c.args.qp c.args.strength c.args.k c.args.top (c.args.top + 4) c.args.plane.now
    c.if-strength-eq0.true c.requires.least c.requires.whole
