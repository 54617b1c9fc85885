use Rattle.std.proofs.Common.{◌∙◌}
use Rattle.hv_serial.proofs.MoveLemmas.{one_write, rest_of_bytes}
use Rattle.hv_serial.proofs.transfer.write_all.Goals as goal

pub loop-done-preserved : goal.loop-done-preserved
loop-done-preserved g c = (
  one_write _ _ _ _ _ _ _ (rest_of_bytes c.args.bytes.now c.loop-done.done) c.loop-done.invariant.0 c.in_ok-done.ensures.ok,
  c.in_ok-done.ensures.no_fault ∙ c.loop-done.invariant.1,
)
