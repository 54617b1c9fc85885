use Rattle.std.proofs.Common.{ap, ◌∙◌}
use Rattle.hv_cabac.specs.Variables.{variable_of}
use Rattle.hv_cabac.proofs.StateLemmas.{next_at}
use Rattle.hv_cabac.proofs.variables.state_after.Goals as goal

pub returns : goal.returns
returns c = ap variable_of c.next_state.ensures ∙ next_at c.args.state c.args.value
