use Rattle.hv_entropy_model.proofs.OracleLemmas.{script_reads_listed}
use Rattle.hv_entropy_model.proofs.reading_back.scripts_read_listed.Goals as goal

pub returns : goal.returns
returns g c = script_reads_listed _
