-- Units that know their vectors (8.5.3.2.1): in each the vector stands in the place of the coded
-- difference too.
use Rattle.hv_plan.specs.declared.prediction.Pred.{Pred}
use Rattle.hv_plan.specs.declared.prediction.Pred.TheVariants.{Intra, Inter}
use Rattle.hv_plan.specs.declared.prediction.Unit.{Unit}

abbrev pub pred_with_vector : Pred → Pred
pred_with_vector (Intra mode) = Intra mode
pred_with_vector (Inter reference mv flag mvd) = Inter reference mv flag mv

abbrev pub unit_with_vector : Unit → Unit
unit_with_vector unit = record unit { pred = pred_with_vector unit.pred }
