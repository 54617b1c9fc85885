use Rattle.hv_tree_model.specs.Plans.{prediction_of}
use Rattle.hv_syntax.specs.Levels.{unit_of}
use Rattle.hv_syntax.proofs.PartLemmas.{puts_quarters}
use Rattle.hv_syntax.proofs.transform.put_four.Goals as goal

pub returns : goal.returns
returns g c =
    let q = c.args.quarters.now in
    puts_quarters g.B.BinSink.stands_for c.args.sink.now c.put_bin.new.sink c.put_bin-2.new.sink
    c.put_quarter.new.sink c.put_quarter-2.new.sink c.put_quarter-3.new.sink
    c.put_quarter-4.new.sink (prediction_of c.args.pred) c.cbf_cb-cb.result c.cbf_cr-cr.result
    (unit_of q.first) (unit_of q.second) (unit_of q.third) (unit_of q.fourth) c.cbf_cb-cb.ensures
    c.cbf_cr-cr.ensures c.put_bin.ensures c.put_bin-2.ensures c.put_quarter.ensures
    c.put_quarter-2.ensures c.put_quarter-3.ensures c.put_quarter-4.ensures
