use Rattle.hv_model.proofs.BuiltCaseLemmas.{built_groups}
use Rattle.hv_model.proofs.inter_cases.built_groups_are_intra.Goals as goal

pub returns : goal.returns
returns c =
    built_groups c.nothing_is_chosen_at_effort_zero.ensures
    c.groups_are_blank_at_effort_zero.ensures
