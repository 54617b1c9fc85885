use Rattle.hv_model.proofs.InterStreamLemmas.{pictures_follow}
use Rattle.hv_model.proofs.inter_pictures.pictures_follow_their_references.Goals as goal

pub returns : goal.returns
returns c = pictures_follow
