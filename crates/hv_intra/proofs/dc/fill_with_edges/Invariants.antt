use Rattle.hv_intra.specs.Blocks.{HasRows}
use Rattle.hv_sample_model.specs.IntraPrediction.{edged}
use Rattle.hv_intra.proofs.dc.fill_with_edges.Given as goal

abbrev pub invariant-loop-y : goal.invariant-loop-y
invariant-loop-y g l =
    HasRows g.row.N l.y
    (edged l.fn.value l.fn.neighbours.side.log2 l.fn.neighbours.line.now) l.out
