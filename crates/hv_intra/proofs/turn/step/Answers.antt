use Rattle.std.proofs.Common.{arith}
use Rattle.hv_intra.proofs.TurnLemmas.{step_more}
use Rattle.hv_intra.proofs.turn.step.Goals as goal

pub loop-i-preserved : goal.loop-i-preserved
loop-i-preserved g c =
    let i = c.loop-i.i in
    λ x below.
    step_more g.row.AREA i _ _ _ _ c.args.from.now c.loop-i.to
    c.weave_first.new.out c.weave_last.new.out c.requires.area (omega arith) (omega arith)
    c.requires.runs c.loop-i-test.true (omega arith) (omega arith) (omega arith) c.loop-i.invariant
    c.weave_first.ensures c.weave_last.ensures x (omega (arith, below))
