use Rattle.std.proofs.Common.{arith}
use Rattle.hv_residual.proofs.LastLemmas.{below_32, prefix_entry, prefix_fits}
use Rattle.hv_residual.proofs.last.prefix_of.Goals as goal

pub bounds-prefixes-from : goal.bounds-prefixes-from
bounds-prefixes-from c =
    omega (arith, below_32 c.args.block.log2 c.args.coordinate c.args.block.most c.requires, c.from.ensures)

pub returns-clause-value : goal.returns-clause-value
returns-clause-value c =
    let e = prefix_entry c.prefixes.result.now c.args.coordinate c.prefixes.ensures
    (below_32 c.args.block.log2 c.args.coordinate c.args.block.most c.requires) in
    rw c.from.ensures e

pub returns-clause-most : goal.returns-clause-most
returns-clause-most c =
    let e = prefix_entry c.prefixes.result.now c.args.coordinate c.prefixes.ensures
    (below_32 c.args.block.log2 c.args.coordinate c.args.block.most c.requires) in
    rw (c.from.ensures, e)
    (prefix_fits c.args.block.log2 c.args.coordinate c.args.block.least c.args.block.most c.requires)
