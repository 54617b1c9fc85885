use Rattle.hv_decision.proofs.OrderLemmas.{orders}
use Rattle.hv_decision.proofs.laws.orders_are_sound.Goals as goal

pub returns : goal.returns
returns c = orders
