use Rattle.hv_model.proofs.IntraStreamLemmas.{each_shown}
use Rattle.hv_model.proofs.intra_pictures.each_intra_picture_is_shown.Goals as goal

pub returns : goal.returns
returns c = each_shown
