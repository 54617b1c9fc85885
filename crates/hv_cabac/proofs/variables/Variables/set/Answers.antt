use Rattle.std.proofs.lemmas.List.{map-set}
use Rattle.hv_cabac.specs.Variables.{variable_of}
use Rattle.hv_cabac.proofs.variables.Variables.set.Goals as goal

pub returns-then-place-lt-CONTEXTS : goal.returns-then-place-lt-CONTEXTS
returns-then-place-lt-CONTEXTS c =
    map-set variable_of c.args.self.now.states c.args.place c.args.state
