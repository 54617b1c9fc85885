use Rattle.std.proofs.Common.{arith}
use Rattle.hv_kernel.proofs.CostLemmas.{power_most}
use Rattle.hv_kernel.proofs.costs.power.Goals as goal

pub overflow_shl-result : goal.overflow_shl-result
overflow_shl-result c = omega arith

pub returns-clause-value : goal.returns-clause-value
returns-clause-value c = omega (arith, power_most c.args.exponent c.requires)

pub returns-clause-most : goal.returns-clause-most
returns-clause-most c = omega (arith, power_most c.args.exponent c.requires)
