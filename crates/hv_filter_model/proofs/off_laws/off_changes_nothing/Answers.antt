use Rattle.hv_filter_model.proofs.OffLemmas.{off_changes_nothing}
use Rattle.hv_filter_model.proofs.off_laws.off_changes_nothing.Goals as goal

pub returns : goal.returns
returns c = off_changes_nothing
