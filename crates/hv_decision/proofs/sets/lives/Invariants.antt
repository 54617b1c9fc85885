use Rattle.std.proofs.Common.{◌≡◌, map, drop, length}
use Rattle.hv_group_model.specs.Structure.{rising}
use Rattle.hv_decision.specs.Coding.{coded_as}
use Rattle.hv_decision.proofs.LifeLemmas.{life_from}
use Rattle.hv_decision.proofs.sets.lives.Given as goal

abbrev pub invariant-loop-place : goal.invariant-loop-place
invariant-loop-place l =
    l.lives.items ≡
    map (life_from l.place (drop l.place (map coded_as l.order))) (rising (length l.order) 0)
