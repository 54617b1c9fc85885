use Rattle.std.proofs.Common.{◌+◌, ◌*◌, arith}
use Rattle.hv_tables.specs.declared.bins.CtxTable.TheVariants.{LastX, LastY}
use Rattle.hv_residual_model.specs.ResidualContexts.{last_prefix_at}
use Rattle.hv_residual.specs.Blocks.{block_of, corner_of}
use Rattle.hv_residual.proofs.CountLemmas.{last_count}
use Rattle.hv_residual.proofs.counting.count_last.Goals as goal

pub returns-clause-value : goal.returns-clause-value
returns-clause-value c =
    let b = block_of c.args.block in
    let e = last_count b (16 * c.args.last.sub_block + c.args.last.position)
    (corner_of c.coded_position-position.result) c.coded_position-position.ensures.value in
    let x = c.count_coordinate.ensures.value (last_prefix_at LastX b) in
    let y = c.count_coordinate-2.ensures.value (last_prefix_at LastY b) in
    omega (arith, e, x, y)
