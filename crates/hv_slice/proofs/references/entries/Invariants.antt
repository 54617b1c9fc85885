-- The entries so far.
use Rattle.std.proofs.Common.{◌≡◌, take, length}
use Rattle.hv_group_model.specs.Structure.{reference_set}
use Rattle.hv_decision.specs.Sets.{set_entries}
use Rattle.hv_slice.proofs.references.entries.Given as goal

abbrev pub invariant-loop-i : goal.invariant-loop-i
invariant-loop-i l =
    (length l.entries ≡ 4) ×
    (take l.i l.entries ≡
    take l.i (set_entries (reference_set l.fn.structure.count l.fn.structure.levels l.fn.picture)))
