-- The context variables that their states stand for.
use Rattle.std.specs.Prelude.{List, map}
use Rattle.hv_entropy_model.specs.Contexts.{ContextVariable}
use Rattle.hv_cabac.specs.Variables.{variable_of}
use Rattle.hv_cabac.specs.declared.variables.Variables.{Variables}

abbrev pub variables_of : Variables → List ContextVariable
variables_of v = map variable_of v.states
