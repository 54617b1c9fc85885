use Rattle.hv_tree_model.specs.Plans.{prediction_of}
use Rattle.hv_syntax.specs.Levels.{unit_of}
use Rattle.hv_syntax.proofs.PartLemmas.{puts_quarter}
use Rattle.hv_syntax.proofs.transform.put_quarter.Goals as goal

pub returns : goal.returns
returns g c =
    let t = c.args.unit.now in
    puts_quarter g.B.BinSink.stands_for c.args.sink.now c.put_where.new.sink c.put_where-2.new.sink
    c.put_transform_unit.new.sink (prediction_of c.args.pred) t.log2 c.args.cbf_cb c.args.cbf_cr
    t.cbf_cb t.cbf_cr (unit_of t) c.requires t.cb_flag t.cr_flag c.put_where.ensures
    c.put_where-2.ensures c.put_transform_unit.ensures
