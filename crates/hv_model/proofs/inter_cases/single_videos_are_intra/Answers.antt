use Rattle.hv_model.proofs.InterCaseLemmas.{single_video_intra}
use Rattle.hv_model.proofs.inter_cases.single_videos_are_intra.Goals as goal

pub returns : goal.returns
returns c = single_video_intra
