use Rattle.std.proofs.Common.{arith}
use Rattle.hv_intra.proofs.TurnLemmas.{tiles_more}
use Rattle.hv_intra.proofs.turn.join_tiles.Goals as goal

pub loop-i-preserved : goal.loop-i-preserved
loop-i-preserved c =
    λ x below.
    tiles_more c.loop-i.i _ _ _ _ c.args.first.now c.args.second.now c.loop-i.out c.copy_run.new.to c.copy_run-in-loop-i.new.to
    (omega arith) (omega arith) (omega arith) c.copy_run.ensures c.copy_run-in-loop-i.ensures (omega arith) (omega arith)
    c.loop-i.invariant x (omega (arith, below))
