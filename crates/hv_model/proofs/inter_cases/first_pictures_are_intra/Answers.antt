use Rattle.hv_model.proofs.InterCaseLemmas.{first_intra}
use Rattle.hv_model.proofs.inter_cases.first_pictures_are_intra.Goals as goal

pub returns : goal.returns
returns c = first_intra
