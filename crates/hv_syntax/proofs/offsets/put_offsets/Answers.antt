use Rattle.hv_syntax.proofs.OffsetLemmas.{puts_sao}
use Rattle.hv_syntax.proofs.offsets.put_offsets.Goals as goal

pub returns : goal.returns
returns g c =
    let site = c.args.site.now in
    puts_sao g.B.BinSink.stands_for c.args.sink.now c.put_where.new.sink c.put_where-2.new.sink
    c.put_type.new.sink c.put_component.new.sink c.put_type-2.new.sink c.put_component-2.new.sink
    c.put_cr.new.sink site.place c.args.sao.now site.column site.row site.column_is site.row_is
    c.put_where.ensures c.put_where-2.ensures c.put_type.ensures c.put_component.ensures
    c.put_type-2.ensures c.put_component-2.ensures c.put_cr.ensures
