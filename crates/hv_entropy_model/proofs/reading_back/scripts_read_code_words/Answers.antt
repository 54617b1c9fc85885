use Rattle.hv_entropy_model.proofs.OracleLemmas.{script_reads_code_word}
use Rattle.hv_entropy_model.proofs.reading_back.scripts_read_code_words.Goals as goal

pub returns : goal.returns
returns g c = script_reads_code_word _
