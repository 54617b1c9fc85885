-- The blocks before this one are chosen.
use Rattle.std.proofs.Common.{◌≡◌, length}
use Rattle.hv_mode.specs.Pictures.{task_of, AreChosen}
use Rattle.hv_mode.specs.Vectors.{references_for}
use Rattle.hv_mode.proofs.picture.decide_blocks.Given as goal

abbrev pub invariant-loop-index : goal.invariant-loop-index
invariant-loop-index l =
    (length l.blocks.items ≡ length l.initial.blocks.items) ×
    AreChosen (task_of l.task) (references_for l.task) l.task.width l.task.height l.index
    l.blocks.items
