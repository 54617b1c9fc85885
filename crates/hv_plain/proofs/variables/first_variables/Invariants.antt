use Rattle.std.proofs.Common.{◌≡◌, map, take}
use Rattle.hv_entropy_model.specs.Contexts.{first_variable}
use Rattle.hv_plain.proofs.variables.first_variables.Given as goal

abbrev pub invariant-loop-value : goal.invariant-loop-value
invariant-loop-value l = l.variables.items ≡ map (first_variable l.qp) (take l.value-index l.values)
