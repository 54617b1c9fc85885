use Rattle.std.proofs.Common.{◌≡◌, ◌*◌, length}
use Rattle.hv_recon.proofs.PutRowLemmas.{AreRowsPut}
use Rattle.hv_recon.proofs.put.put_block.Given as goal

abbrev pub invariant-loop-r : goal.invariant-loop-r
invariant-loop-r l =
    (length l.samples ≡ l.side * l.side) ×
    AreRowsPut l.side l.x l.y l.log2 l.r l.block l.initial.samples l.samples
