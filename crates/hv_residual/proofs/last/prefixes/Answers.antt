use Rattle.std.proofs.Common.{refl}
use Rattle.hv_lemmas.specs.Lists.{tabulate}
use Rattle.hv_residual_model.specs.ResidualBins.{prefix_of}
use Rattle.hv_residual.proofs.last.prefixes.Goals as goal

pub returns : goal.returns
unfolding tabulate prefix_of
returns c = refl
