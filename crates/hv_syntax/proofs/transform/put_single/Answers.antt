use Rattle.hv_tree_model.specs.Plans.{prediction_of}
use Rattle.hv_syntax.specs.Levels.{unit_of}
use Rattle.hv_syntax.proofs.PartLemmas.{puts_single}
use Rattle.hv_syntax.proofs.transform.put_single.Goals as goal

pub returns : goal.returns
returns g c =
    let t = c.args.unit.now in
    puts_single g.B.BinSink.stands_for c.args.sink.now c.put_bin.new.sink c.put_bin-2.new.sink
    c.put_transform_unit.new.sink (prediction_of c.args.pred) t.log2 t.cbf_cb t.cbf_cr (unit_of t)
    t.least t.most t.cb_flag t.cr_flag c.put_bin.ensures c.put_bin-2.ensures
    c.put_transform_unit.ensures
