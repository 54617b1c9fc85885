use Rattle.std.proofs.Common.{arith, ◌*◌, ◌-◌}
use Rattle.hv_residual.proofs.CountLemmas.{unary_count}
use Rattle.hv_residual.proofs.counting.count_prefix.Goals as goal

pub returns-clause-value : goal.returns-clause-value
returns-clause-value c = λ question.
    let u = unary_count question (2 * c.args.block.log2 - 1) 0 c.args.prefix c.requires in
    omega (arith, u, c.min.ensures, c.from.ensures, c.from-2.ensures)
