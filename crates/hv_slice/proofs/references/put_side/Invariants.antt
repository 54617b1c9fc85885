-- The entries so far were put.
use Rattle.hv_slice.proofs.SideLemmas.{IsPutTo}
use Rattle.hv_slice.proofs.references.put_side.Given as goal

abbrev pub invariant-loop-entry : goal.invariant-loop-entry
invariant-loop-entry l = IsPutTo l.initial.writer l.writer l.side l.entry-index l.last
