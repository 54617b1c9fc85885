use Rattle.std.proofs.Common.{◌+◌, ◌-◌, ap, arith, ◌∙◌}
use Rattle.hv_residual.specs.Blocks.{block_of}
use Rattle.hv_residual.specs.Counts.{level_count}
use Rattle.hv_residual.proofs.EarlierLemmas.{cut_levels}
use Rattle.hv_residual.proofs.counting.count_last_sub_block.Goals as goal

pub returns-clause-value : goal.returns-clause-value
returns-clause-value c =
    let i = c.args.last.position in
    let k = c.from-from.result in
    let all = cut_levels (block_of c.args.block) c.args.levels.now c.args.last.sub_block (i + 1) (15 - k)
    c.gather-these.result (omega (arith, c.args.last.inside, c.from-from.ensures))
    c.gather-these.ensures in
    let e = c.count_levels.ensures.value ∙ ap level_count all in
    omega (arith, e, c.from.ensures)
