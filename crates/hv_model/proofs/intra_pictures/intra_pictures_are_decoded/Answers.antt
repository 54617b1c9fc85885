use Rattle.hv_model.proofs.IntraUnitLemmas.{intra_decoded}
use Rattle.hv_model.proofs.intra_pictures.intra_pictures_are_decoded.Goals as goal

pub returns : goal.returns
returns c = intra_decoded
