use Rattle.hv_entropy_model.proofs.OracleLemmas.{code_word_read_back}
use Rattle.hv_entropy_model.proofs.reading_back.code_word_is_read_back.Goals as goal

pub returns : goal.returns
returns c = code_word_read_back
