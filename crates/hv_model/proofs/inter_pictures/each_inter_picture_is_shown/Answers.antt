use Rattle.hv_model.proofs.InterStreamLemmas.{each_shown}
use Rattle.hv_model.proofs.inter_pictures.each_inter_picture_is_shown.Goals as goal

pub returns : goal.returns
returns c = each_shown
