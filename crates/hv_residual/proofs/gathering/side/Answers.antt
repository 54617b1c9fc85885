use Rattle.std.proofs.Common.{arith}
use Rattle.std.proofs.Math.Pow.{pow_mono}
use Rattle.hv_residual.proofs.gathering.side.Goals as goal

pub returns-clause-most : goal.returns-clause-most
returns-clause-most c =
    let p = pow_mono {i = c.args.block.log2} {j = 5} c.args.block.most in
    omega (arith, p, c.power.ensures)
