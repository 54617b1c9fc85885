use Rattle.std.proofs.Common.{◌≡◌, length, take}
use Rattle.std.specs.Prelude.{map}
use Rattle.hv_entropy_model.specs.Contexts.{first_variable}
use Rattle.hv_cabac.specs.Variables.{variable_of}
use Rattle.hv_cabac.proofs.variables.Variables.first.Given as goal

-- so many variables have their start
abbrev pub invariant-loop-i : goal.invariant-loop-i
invariant-loop-i l = record {
  all : length l.states ≡ 140;
  started : map variable_of (take l.i l.states) ≡ map (first_variable l.qp) (take l.i l.values);
}
