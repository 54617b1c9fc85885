use Rattle.std.proofs.Common.{◌+◌, arith}
use Rattle.hv_deblock.specs.Filled.{samples_of}
use Rattle.hv_deblock.specs.Lines.{lines_after}
use Rattle.hv_deblock.proofs.SegmentLemmas.{line_first, line_more, keeps_later}
use Rattle.hv_deblock.proofs.segment.filter_lines.Goals as goal

pub store_line-requires-4-clause-kept : goal.store_line-requires-4-clause-kept
store_line-requires-4-clause-kept g c =
    let lines_1 =
    line_first g.E.Edges.direction c.args.k c.args.top (g.F.LineFilter.filtered c.args.filter.now) c.load_line-first.result
    c.filtered.result c.args.plane.now c.store_line.new.plane c.requires.whole c.load_line-first.ensures c.filtered.ensures.value
    c.store_line.ensures in
    let lines_2 =
    line_more g.E.Edges.direction c.args.k c.args.top (c.args.top + 1) (c.args.top + 2) (g.F.LineFilter.filtered c.args.filter.now)
    c.load_line-second.result c.filtered-2.result c.args.plane.now c.store_line.new.plane c.store_line-2.new.plane (omega arith) (omega arith)
    c.load_line-second.ensures c.filtered-2.ensures.value lines_1 c.store_line-2.ensures in
    let lines_3 =
    line_more g.E.Edges.direction c.args.k c.args.top (c.args.top + 2) (c.args.top + 3) (g.F.LineFilter.filtered c.args.filter.now)
    c.load_line-third.result c.filtered-3.result c.args.plane.now c.store_line-2.new.plane c.store_line-3.new.plane (omega arith) (omega arith)
    c.load_line-third.ensures c.filtered-3.ensures.value lines_2 c.store_line-3.ensures in
    keeps_later g.E.Edges.direction c.margin-margin.result (g.F.LineFilter.margin c.args.filter.now) c.args.k c.args.top (c.args.top + 3)
    (lines_after (g.F.LineFilter.filtered c.args.filter.now) c.args.k (samples_of g.E.Edges.direction c.args.plane.now))
    c.load_line-fourth.result c.filtered-4.result c.args.plane.now c.store_line-3.new.plane c.margin-margin.ensures.value c.requires.least
    c.requires.k (omega (arith, c.requires.top)) c.load_line-fourth.ensures lines_3 c.filtered-4.ensures.kept

pub returns : goal.returns
returns g c =
    let lines_1 =
    line_first g.E.Edges.direction c.args.k c.args.top (g.F.LineFilter.filtered c.args.filter.now) c.load_line-first.result
    c.filtered.result c.args.plane.now c.store_line.new.plane c.requires.whole c.load_line-first.ensures c.filtered.ensures.value
    c.store_line.ensures in
    let lines_2 =
    line_more g.E.Edges.direction c.args.k c.args.top (c.args.top + 1) (c.args.top + 2) (g.F.LineFilter.filtered c.args.filter.now)
    c.load_line-second.result c.filtered-2.result c.args.plane.now c.store_line.new.plane c.store_line-2.new.plane (omega arith) (omega arith)
    c.load_line-second.ensures c.filtered-2.ensures.value lines_1 c.store_line-2.ensures in
    let lines_3 =
    line_more g.E.Edges.direction c.args.k c.args.top (c.args.top + 2) (c.args.top + 3) (g.F.LineFilter.filtered c.args.filter.now)
    c.load_line-third.result c.filtered-3.result c.args.plane.now c.store_line-2.new.plane c.store_line-3.new.plane (omega arith) (omega arith)
    c.load_line-third.ensures c.filtered-3.ensures.value lines_2 c.store_line-3.ensures in
    line_more g.E.Edges.direction c.args.k c.args.top (c.args.top + 3) (c.args.top + 4) (g.F.LineFilter.filtered c.args.filter.now)
    c.load_line-fourth.result c.filtered-4.result c.args.plane.now c.store_line-3.new.plane c.store_line-4.new.plane (omega arith) (omega arith)
    c.load_line-fourth.ensures c.filtered-4.ensures.value lines_3 c.store_line-4.ensures
