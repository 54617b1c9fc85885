use Rattle.hv_model.proofs.BlankCaseLemmas.{videos_blank}
use Rattle.hv_model.proofs.inter_cases.inter_videos_are_blank_at_effort_zero.Goals as goal

pub returns : goal.returns
returns c = videos_blank c.groups_are_blank_at_effort_zero.ensures
