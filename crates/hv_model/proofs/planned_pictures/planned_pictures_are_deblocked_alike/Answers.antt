use Rattle.hv_model.proofs.PlannedVectorLemmas.{deblocked_by_plans}
use Rattle.hv_model.proofs.planned_pictures.planned_pictures_are_deblocked_alike.Goals as goal

pub returns : goal.returns
returns c = deblocked_by_plans
