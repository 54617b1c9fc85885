use Rattle.std.proofs.Common.{◌∙◌}
use Rattle.hv_serial.proofs.MoveLemmas.{one_read}
use Rattle.hv_serial.proofs.transfer.fill.Goals as goal

pub loop-filled-preserved : goal.loop-filled-preserved
loop-filled-preserved g c = (
  one_read _ _ _ _ _ _ _ _ c.loop-filled.invariant.0 c.in_ok-n.ensures.ok,
  c.in_ok-n.ensures.no_fault ∙ c.loop-filled.invariant.1,
)
