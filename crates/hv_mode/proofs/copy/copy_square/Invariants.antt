use Rattle.std.proofs.Common.{◌≡◌, ◌*◌, ◌^◌, length}
use Rattle.hv_recon.proofs.PutRowLemmas.{AreRowsPut}
use Rattle.hv_mode.proofs.CopyLemmas.{gathered}
use Rattle.hv_mode.proofs.copy.copy_square.Given as goal

abbrev pub invariant-loop-r : goal.invariant-loop-r
invariant-loop-r l =
    (length l.samples ≡ l.side * l.side) ×
    AreRowsPut l.side l.x l.y l.log2 l.r (gathered l.side l.x l.y (2 ^ l.log2) l.from)
    l.initial.samples l.samples
