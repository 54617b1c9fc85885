use Rattle.std.proofs.Common.{◌≡◌, ◌*◌, ◌^◌, length}
use Rattle.hv_recon.proofs.CodedBlockLemmas.{AreRead}
use Rattle.hv_recon.proofs.coded_block.read_block.Given as goal

abbrev pub invariant-loop-r : goal.invariant-loop-r
invariant-loop-r l =
    (length l.out ≡ 2 ^ l.log2 * 2 ^ l.log2) ×
    AreRead l.plane l.x l.y (2 ^ l.log2) l.r l.out
