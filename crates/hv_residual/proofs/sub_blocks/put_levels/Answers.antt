use Rattle.std.proofs.Common.{take, ◌∙◌}
use Rattle.hv_residual.specs.Blocks.{block_of}
use Rattle.hv_residual.proofs.PuttingLemmas.{puts_both, puts_same}
use Rattle.hv_residual.proofs.EarlierLemmas.{level_parts, had_is}
use Rattle.hv_residual.proofs.sub_blocks.put_levels.Goals as goal

pub returns-clause-puts : goal.returns-clause-puts
returns-clause-puts g c =
    let r = c.nonzero_levels-count in
    puts_same g.B.BinSink.stands_for _ _ _ _
    (level_parts (block_of c.args.block) c.args.set c.args.levels.now (take r.result r.new.all)
    (take r.result r.new.negative) c.first_above_1-first.result r.ensures.magnitudes
    r.ensures.signs c.first_above_1-first.ensures)
    (puts_both g.B.BinSink.stands_for _ c.put_greater1.new.sink _ _ _ c.put_greater1.ensures
    (puts_both g.B.BinSink.stands_for _ c.put_greater2.new.sink _ _ _ c.put_greater2.ensures
    (puts_both g.B.BinSink.stands_for _ c.put_signs.new.sink _ _ _ c.put_signs.ensures
    c.put_all_remaining.ensures)))

pub returns-clause-had : goal.returns-clause-had
returns-clause-had g c =
    let r = c.nonzero_levels-count in
    c.had_after.ensures ∙
    had_is c.args.had c.args.levels.now (take r.result r.new.all) r.result c.first_above_1-first.result
    r.ensures.magnitudes r.ensures.count
    c.first_above_1-first.ensures
