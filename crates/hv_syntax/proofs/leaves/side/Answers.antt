use Rattle.std.proofs.Common.{arith}
use Rattle.std.proofs.Math.Pow.{pow_mono}
use Rattle.hv_syntax.proofs.leaves.side.Goals as goal

pub returns-clause-most : goal.returns-clause-most
returns-clause-most c = omega (arith, pow_mono {i = c.args.log2} {j = 5} c.requires)
