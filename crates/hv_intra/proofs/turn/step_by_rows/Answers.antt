use Rattle.std.proofs.Common.{◌+◌, ◌-◌, ◌*◌, ◌∙◌, arith}
use Rattle.hv_intra.proofs.RowLemmas.{length-parted}
use Rattle.hv_intra.proofs.TurnLemmas.{rows_more_woven}
use Rattle.hv_intra.proofs.turn.step_by_rows.Goals as goal

pub loop-i-preserved : goal.loop-i-preserved
loop-i-preserved c =
    let i = c.loop-i.i in
    record {
      woven = λ x below.
          rows_more_woven i _ _ _ c.args.from.now c.loop-i.to c.weave_rows.new.out c.requires
          (omega arith) (omega arith) c.loop-i-test.true c.loop-i.invariant.all (omega arith)
          c.loop-i.invariant.woven c.weave_rows.ensures x (omega (arith, below));
      all =
          length-parted (16 * i) (16 * i + 16 - 16 * i) c.loop-i.to c.weave_rows.new.out
          (omega (arith, c.loop-i.invariant.all)) (omega arith) ∙ c.loop-i.invariant.all;
    }
