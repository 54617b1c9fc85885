-- The bytes are written up to a place, and no write has failed.
use Rattle.std.proofs.Common.{length, ◌-◌, ◌≡◌}
use Rattle.hv_serial.proofs.MoveLemmas.{IsWritten}
use Rattle.hv_serial.proofs.transfer.write_all.Given as goal

abbrev pub invariant-loop-done : goal.invariant-loop-done
invariant-loop-done g l =
    IsWritten (g.K.Sink.written l.initial.sink) (g.K.Sink.written l.sink) l.bytes l.done ×
    (g.K.Sink.faults l.sink ≡ g.K.Sink.faults l.initial.sink)

abbrev pub decreases-loop-done : goal.decreases-loop-done
decreases-loop-done g l = length l.bytes - l.done
