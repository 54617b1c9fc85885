use Rattle.hv_manager.proofs.CountLemmas.{AreCountsBefore}
use Rattle.hv_manager.proofs.live.all_live.Given as goal

abbrev pub invariant-loop-place : goal.invariant-loop-place
invariant-loop-place l = AreCountsBefore l.structure l.place l.live.items
