-- So many blocks are there.
use Rattle.std.proofs.Common.{◌≡◌, length}
use Rattle.hv_serial.proofs.workspace.blocks_of_picture.Given as goal

abbrev pub invariant-loop-index : goal.invariant-loop-index
invariant-loop-index l = length l.blocks.items ≡ l._index
