use Rattle.hv_model.proofs.PlannedSquareLemmas.{planned_squares}
use Rattle.hv_model.proofs.planned_pictures.planned_squares_are_those_of_trees.Goals as goal

pub returns : goal.returns
returns c = planned_squares
