use Rattle.hv_model.proofs.BuiltCaseLemmas.{built_videos}
use Rattle.hv_model.proofs.inter_cases.built_videos_are_intra.Goals as goal

pub returns : goal.returns
returns c = built_videos c.built_groups_are_intra.ensures
