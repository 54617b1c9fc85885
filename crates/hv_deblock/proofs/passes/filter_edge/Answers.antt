use Rattle.std.proofs.Common.{◌+◌, ◌-◌, ◌*◌, refl, arith}
use Rattle.hv_deblock.specs.Filled.{seen}
use Rattle.hv_deblock.proofs.FilledLemmas.{no_rows}
use Rattle.hv_deblock.proofs.PassLemmas.{four_more, carried_first, carried_on}
use Rattle.hv_deblock.proofs.passes.filter_edge.Goals as goal

pub loop-four-init : goal.loop-four-init
loop-four-init g c = (
  no_rows g.E.Edges.direction _ c.args.plane.now (8 * c.args.k - 4) (8 * c.args.k + 4) 0 c.requires.whole,
  carried_first c.args.component (seen g.E.Edges.direction (g.S.CodedSquares.coding c.args.squares.now)) c.args.k 0,
  omega arith,
)

pub loop-four-preserved : goal.loop-four-preserved
loop-four-preserved g c = (
  four_more c.args.component g.E.Edges.direction c.args.qp c.strength_of_four-strength.result
      (seen g.E.Edges.direction (g.S.CodedSquares.coding c.args.squares.now)) c.args.k
      c.loop-four.four (4 * c.loop-four.four) (4 * (c.loop-four.four + 1)) c.args.plane.now c.loop-four.plane c.filter_segment.new.plane
      c.strength_of_four-strength.ensures.value
      c.requires.least c.requires.k (omega arith) (omega arith) (omega (arith, c.loop-four-test.true, c.rows-fours.ensures))
      c.loop-four.invariant.0 c.filter_segment.ensures,
  carried_on c.args.component (seen g.E.Edges.direction (g.S.CodedSquares.coding c.args.squares.now)) c.args.k c.loop-four.four
      (c.loop-four.four + 1) c.strength_of_four-strength.result refl c.strength_of_four-strength.ensures.value,
  c.strength_of_four-strength.ensures.most,
)
