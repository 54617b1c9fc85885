use Rattle.std.proofs.Common.{arith, w32}
use Rattle.std.proofs.lemmas.Simd.{fold-sum, sum_fits}
use Rattle.hv_kernel.proofs.lanes.total_of_sums.Goals as goal

pub overflow_add-result : goal.overflow_add-result
overflow_add-result g c = sum_fits w32 0 c.args.sums (omega (arith, c.requires))

pub returns : goal.returns
returns g c = omega (arith, fold-sum 0 c.args.sums)
