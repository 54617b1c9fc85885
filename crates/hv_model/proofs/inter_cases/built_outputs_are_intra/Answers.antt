use Rattle.hv_model.proofs.BuiltCaseLemmas.{built_outputs}
use Rattle.hv_model.proofs.inter_cases.built_outputs_are_intra.Goals as goal

pub returns : goal.returns
returns c = built_outputs c.built_videos_are_intra.ensures
