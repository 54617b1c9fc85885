use Rattle.std.proofs.Common.{refl, ◌+◌, ◌*◌}
use Rattle.hv_residual.proofs.EarlierLemmas.{all_off}
use Rattle.hv_residual.proofs.coded.Coded.nothing.Goals as goal

pub returns : goal.returns
returns c = record { flags = λ x y h k. all_off 81 (9 * y + x); had = refl }
