use Rattle.hv_unit_model.proofs.ReadOffsetLemmas.{read_offsets}
use Rattle.hv_unit_model.proofs.unit_laws.read_offsets_may_be_coded.Goals as goal

pub returns : goal.returns
returns c = read_offsets
