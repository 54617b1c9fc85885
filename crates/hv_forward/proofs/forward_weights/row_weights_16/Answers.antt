use Rattle.std.proofs.Common.{refl}
use Rattle.hv_forward.proofs.TableLemmas.{row_weights_are}
use Rattle.hv_forward.proofs.forward_weights.row_weights_16.Goals as goal

pub returns : goal.returns
returns c = row_weights_are 4 _ refl
