use Rattle.std.proofs.Common.{◌≡◌, map, ◌++◌, length}
use Rattle.hv_group_model.specs.Structure.{kept_among, place_in, falling, set_in}
use Rattle.hv_decision.specs.Coding.{coded_as}
use Rattle.hv_decision.specs.Sets.{entry_before}
use Rattle.hv_decision.proofs.sets.push_before.Given as goal

abbrev pub invariant-loop-other : goal.invariant-loop-other
invariant-loop-other l =
    l.entries.items ++ map entry_before
    (kept_among (map coded_as l.order) (place_in (map coded_as l.order) l.picture) l.picture (falling l.other)) ≡
    l.initial.entries.items ++ map entry_before
    (set_in (map coded_as l.order) (length l.order) l.picture).before
