use Rattle.std.proofs.Common.{◌+◌, ◌*◌}
use Rattle.hv_residual_model.specs.UnitBins.{PutsUnit}
use Rattle.hv_tables.specs.declared.bins.CtxTable.TheVariants.{LastX, LastY}
use Rattle.hv_residual_model.specs.ResidualBins.{last_prefix_bins}
use Rattle.hv_residual.specs.Blocks.{block_of, corner_of}
use Rattle.hv_residual.proofs.PuttingLemmas.{puts_both, puts_same}
use Rattle.hv_residual.proofs.LastLemmas.{parts_of_last}
use Rattle.hv_residual.proofs.last.put_last.Goals as goal

pub returns : goal.returns
returns g c =
    let b = block_of c.args.block in
    let p = corner_of c.coded_position-position.result in
    let a = c.args.sink.now in
    let x : PutsUnit g.B.BinSink.stands_for a c.put_prefix.new.sink (last_prefix_bins LastX b p.x) =
    rw c.prefix_of.ensures.value at c.put_prefix.ensures in
    let y : PutsUnit g.B.BinSink.stands_for c.put_prefix.new.sink c.put_prefix-2.new.sink
    (last_prefix_bins LastY b p.y) = rw c.prefix_of-2.ensures.value at c.put_prefix-2.ensures in
    puts_same g.B.BinSink.stands_for a c.put_suffix-2.new.sink _ _
    (parts_of_last b (16 * c.args.last.sub_block + c.args.last.position) p
    c.coded_position-position.ensures.value)
    (puts_both g.B.BinSink.stands_for a c.put_prefix.new.sink c.put_suffix-2.new.sink _ _ x
    (puts_both g.B.BinSink.stands_for c.put_prefix.new.sink c.put_prefix-2.new.sink
    c.put_suffix-2.new.sink _ _ y
    (puts_both g.B.BinSink.stands_for c.put_prefix-2.new.sink c.put_suffix.new.sink
    c.put_suffix-2.new.sink _ _ c.put_suffix.ensures c.put_suffix-2.ensures)))
