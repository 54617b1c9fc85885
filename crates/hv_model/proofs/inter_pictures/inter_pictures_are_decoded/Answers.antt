use Rattle.hv_model.proofs.InterUnitLemmas.{inter_decoded}
use Rattle.hv_model.proofs.inter_pictures.inter_pictures_are_decoded.Goals as goal

pub returns : goal.returns
returns c = inter_decoded
