use Rattle.hv_types.proofs.OutsideLemmas.{writes_joined}
use Rattle.hv_types.proofs.laws.writes_are_joined.Goals as goal

pub returns : goal.returns
returns c = writes_joined
