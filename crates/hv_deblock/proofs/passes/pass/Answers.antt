use Rattle.std.proofs.Common.{◌+◌, ◌-◌, ◌*◌, ◌∙◌, sym, arith}
use Rattle.hv_deblock.specs.Filled.{columns_of, rows_of, seen}
use Rattle.hv_deblock.specs.Passes.{filter_of}
use Rattle.hv_deblock.proofs.PassLemmas.{edge_more, all_edges, side_by_fours, still_pass}
use Rattle.hv_deblock.proofs.passes.pass.Goals as goal

pub returns : goal.returns
returns g c =
    all_edges g.E.Edges.direction (filter_of c.args.component c.args.qp (seen g.E.Edges.direction (g.S.CodedSquares.coding c.args.squares.now)))
    c.loop-k.k c.args.plane.now c.loop-k.plane c.loop-k.auto.k
    (omega (arith, c.loop-k-test.false, c.div_ceil-edges.ensures, c.columns.ensures)) c.loop-k.invariant

pub loop-k-preserved : goal.loop-k-preserved
loop-k-preserved g c =
    edge_more g.E.Edges.direction (filter_of c.args.component c.args.qp (seen g.E.Edges.direction (g.S.CodedSquares.coding c.args.squares.now)))
    c.loop-k.k (8 * c.loop-k.k - 4) (8 * (c.loop-k.k + 1) - 4) c.args.plane.now c.loop-k.plane c.filter_edge.new.plane c.loop-k.auto.k
    (omega (
      arith,
      c.loop-k-test.true,
      c.div_ceil-edges.ensures,
      c.columns.ensures,
      side_by_fours c.args.component (columns_of g.E.Edges.direction c.args.plane.now) _ c.requires.columns,
    ))
    (omega arith) (omega arith) (side_by_fours c.args.component (rows_of g.E.Edges.direction c.args.plane.now) _ c.requires.rows)
    c.loop-k.invariant c.filter_edge.ensures

pub returns-then-is_still : goal.returns-then-is_still
returns-then-is_still g c =
    still_pass c.args.component g.E.Edges.direction c.args.qp (seen g.E.Edges.direction (g.S.CodedSquares.coding c.args.squares.now))
    c.args.plane.now (sym c.is_still.ensures ∙ c.if-is_still.true) c.requires.whole
