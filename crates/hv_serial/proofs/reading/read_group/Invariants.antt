-- So many pictures of the group are read, and the buffer has room for one.
use Rattle.std.proofs.Common.{◌≡◌, length}
use Rattle.hv_types.specs.Configuration.{picture_bytes}
use Rattle.hv_serial.proofs.StepLemmas.{PartRead}
use Rattle.hv_serial.specs.Transfers.{drawn}
use Rattle.hv_serial.proofs.reading.read_group.Given as goal

abbrev pub invariant-loop-count : goal.invariant-loop-count
invariant-loop-count g l =
    PartRead l.config l.before l.count l.input
    (drawn g.S.Source.left g.S.Source.faults l.initial.source l.source) ×
    (length l.raw ≡ picture_bytes l.config)
