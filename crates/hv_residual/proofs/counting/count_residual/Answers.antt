use Rattle.std.proofs.Common.{arith}
use Rattle.hv_residual_model.specs.ResidualContexts.{TransformBlock}
use Rattle.hv_residual.proofs.CountLemmas.{block_count}
use Rattle.hv_residual.proofs.counting.count_residual.Goals as goal

pub returns : goal.returns
returns c =
    let last = c.find_last-last.result in
    let b : TransformBlock = record {
      scanIdx = c.args.scan;
      log2TrafoSize = c.args.log2;
      is_luma = c.args.luma;
    } in
    let e = block_count b c.args.levels.now last.sub_block last.position last.inside
    c.find_last-last.ensures.value in
    omega (
      arith,
      e,
      c.count_last.ensures.value,
      c.count_last_sub_block.ensures.value,
      c.count_sub_blocks.ensures.value,
    )
