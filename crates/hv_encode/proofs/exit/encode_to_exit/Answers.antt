-- The code of the status that is due, and of refused words.
use Rattle.std.proofs.Common.{length}
use Rattle.hv_encode.proofs.ExitLemmas.{code_due, code_refused}
use Rattle.hv_encode.proofs.exit.encode_to_exit.Goals as goal

pub returns-clause-due : goal.returns-clause-due
returns-clause-due g c cfg bytes a told reads writes lines =
    code_due cfg (length bytes) c.run_encode.result _ c.code.ensures (c.run_encode.ensures.complete cfg bytes a told reads writes lines)

pub returns-clause-refused : goal.returns-clause-refused
returns-clause-refused g c refused =
    code_refused c.run_encode.result _ c.code.ensures (c.run_encode.ensures.words_unless_memory refused)
