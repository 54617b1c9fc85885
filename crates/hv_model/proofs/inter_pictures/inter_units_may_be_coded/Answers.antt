use Rattle.hv_model.proofs.InterUnitLemmas.{inter_units_valid}
use Rattle.hv_model.proofs.inter_pictures.inter_units_may_be_coded.Goals as goal

pub returns : goal.returns
returns c = inter_units_valid
