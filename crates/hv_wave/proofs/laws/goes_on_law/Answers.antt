use Rattle.hv_wave.proofs.CompletionLemmas.{goes_on}
use Rattle.hv_wave.proofs.laws.goes_on_law.Goals as goal

pub returns : goal.returns
returns c = goes_on
