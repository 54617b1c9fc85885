use Rattle.hv_syntax.proofs.PartLemmas.{puts_prediction_unit}
use Rattle.hv_syntax.proofs.motion.put_prediction_unit.Goals as goal

pub returns : goal.returns
returns g c =
    puts_prediction_unit g.B.BinSink.stands_for c.args.sink.now c.put_bin.new.sink
    c.put_reference.new.sink c.put_difference.new.sink c.put_bin-2.new.sink c.args.references
    (record {
      ref_idx_l0 = c.args.reference;
      mvp_l0_flag = c.args.flag;
      MvdL0 = c.args.difference;
    })
    c.put_bin.ensures c.put_reference.ensures c.put_difference.ensures c.put_bin-2.ensures
