use Rattle.std.proofs.Common.{◌≡◌, map, take}
use Rattle.hv_decision.specs.Coding.{coded_as}
use Rattle.hv_decision.proofs.coding.pictures_of.Given as goal

abbrev pub invariant-loop-coded : goal.invariant-loop-coded
invariant-loop-coded l = l.pictures.items ≡ map (λ c. c.picture) (map coded_as (take l.coded-index l.order))
