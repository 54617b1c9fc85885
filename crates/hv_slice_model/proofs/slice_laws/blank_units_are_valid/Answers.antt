use Rattle.hv_slice_model.proofs.BlankUnitLemmas.{blank_units_valid}
use Rattle.hv_slice_model.proofs.slice_laws.blank_units_are_valid.Goals as goal

pub returns : goal.returns
returns c = blank_units_valid
