use Rattle.hv_lemmas.proofs.ListLemmas.{length-tabulate}
use Rattle.hv_types.proofs.laws.tabulate_counts.Goals as goal

pub returns : goal.returns
returns g c n f = length-tabulate n f
