use Rattle.hv_residual.proofs.PuttingLemmas.{puts_both, puts_same}
use Rattle.hv_residual.proofs.ResidualLemmas.{residual_parts}
use Rattle.hv_residual.proofs.residual.put_residual.Goals as goal

pub returns : goal.returns
returns g c =
    let last = c.find_last-last.result in
    puts_same g.B.BinSink.stands_for _ _ _ _
    (residual_parts _ c.args.levels.now last.sub_block last.position last.inside
    c.find_last-last.ensures.value)
    (puts_both g.B.BinSink.stands_for _ c.put_last.new.sink _ _ _ c.put_last.ensures
    (puts_both g.B.BinSink.stands_for _ c.put_last_sub_block-coded.new.sink _ _ _
    c.put_last_sub_block-coded.ensures.puts
    (c.put_sub_blocks.ensures _ c.put_last_sub_block-coded.ensures.shows)))
