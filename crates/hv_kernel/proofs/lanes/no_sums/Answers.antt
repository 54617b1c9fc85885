use Rattle.hv_kernel.proofs.LaneLemmas.{sum_of_zeros}
use Rattle.hv_kernel.proofs.lanes.no_sums.Goals as goal

pub returns : goal.returns
returns g c = sum_of_zeros g.row.N
