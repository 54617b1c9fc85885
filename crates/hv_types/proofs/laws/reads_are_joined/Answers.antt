use Rattle.hv_types.proofs.OutsideLemmas.{reads_joined}
use Rattle.hv_types.proofs.laws.reads_are_joined.Goals as goal

pub returns : goal.returns
returns c = reads_joined
