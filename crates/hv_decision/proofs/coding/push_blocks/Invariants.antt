use Rattle.std.proofs.Common.{◌≡◌, map, ◌++◌, ◌*◌, ◌^◌}
use Rattle.hv_group_model.specs.Structure.{blocks, anchors}
use Rattle.hv_decision.specs.Coding.{coded_as}
use Rattle.hv_decision.proofs.CodingLemmas.{anchors_from}
use Rattle.hv_decision.proofs.coding.push_blocks.Given as goal

abbrev pub invariant-loop-block : goal.invariant-loop-block
invariant-loop-block l =
    map coded_as l.order.items ++ blocks l.levels (l.block * 2 ^ l.levels)
    (anchors_from l.count l.levels l.block) ≡
    map coded_as l.initial.order.items ++ blocks l.levels 0 (anchors l.count l.levels)
