-- The buffer is filled up to a place, and no read has failed.
use Rattle.std.proofs.Common.{length, ◌-◌, ◌≡◌}
use Rattle.hv_serial.proofs.MoveLemmas.{IsFilled}
use Rattle.hv_serial.proofs.transfer.fill.Given as goal

abbrev pub invariant-loop-filled : goal.invariant-loop-filled
invariant-loop-filled g l =
    IsFilled (g.S.Source.left l.initial.source) (g.S.Source.left l.source) l.buffer l.filled ×
    (g.S.Source.faults l.source ≡ g.S.Source.faults l.initial.source)

abbrev pub decreases-loop-filled : goal.decreases-loop-filled
decreases-loop-filled g l = length l.initial.buffer - l.filled
