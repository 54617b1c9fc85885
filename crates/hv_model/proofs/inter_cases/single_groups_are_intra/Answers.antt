use Rattle.hv_model.proofs.InterCaseLemmas.{single_group_intra}
use Rattle.hv_model.proofs.inter_cases.single_groups_are_intra.Goals as goal

pub returns : goal.returns
returns c = single_group_intra
