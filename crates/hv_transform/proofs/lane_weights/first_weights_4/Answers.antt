use Rattle.std.proofs.Common.{refl}
use Rattle.hv_transform.proofs.TableLemmas.{weights_are}
use Rattle.hv_transform.proofs.lane_weights.first_weights_4.Goals as goal

pub returns : goal.returns
returns c = weights_are 2 _ refl
