use Rattle.hv_model.proofs.IntraUnitLemmas.{intra_units_valid}
use Rattle.hv_model.proofs.intra_pictures.intra_units_may_be_coded.Goals as goal

pub returns : goal.returns
returns c = intra_units_valid
