use Rattle.hv_stream_model.proofs.UnitLemmas.{stream_of_units}
use Rattle.hv_stream_model.proofs.unit_laws.units_make_a_stream.Goals as goal

pub returns : goal.returns
returns c = stream_of_units
