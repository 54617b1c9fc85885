use Rattle.hv_unit_model.proofs.UnitLemmas.{reads_coding_tree_unit}
use Rattle.hv_unit_model.proofs.unit_laws.coding_tree_units_are_read.Goals as goal

pub returns : goal.returns
returns c = reads_coding_tree_unit
