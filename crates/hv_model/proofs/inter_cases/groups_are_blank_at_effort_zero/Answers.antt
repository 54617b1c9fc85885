use Rattle.hv_model.proofs.BlankCaseLemmas.{groups_blank}
use Rattle.hv_model.proofs.inter_cases.groups_are_blank_at_effort_zero.Goals as goal

pub returns : goal.returns
returns c = groups_blank c.sources_are_blank_at_effort_zero.ensures
