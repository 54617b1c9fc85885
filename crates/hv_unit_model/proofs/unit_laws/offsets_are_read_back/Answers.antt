use Rattle.hv_unit_model.proofs.OffsetLemmas.{reads_sao}
use Rattle.hv_unit_model.proofs.unit_laws.offsets_are_read_back.Goals as goal

pub returns : goal.returns
returns c = reads_sao
