use Rattle.hv_syntax.specs.Levels.{units_of, size_of}
use Rattle.hv_syntax.proofs.PartLemmas.{puts_inter}
use Rattle.hv_syntax.proofs.coding_unit.put_inter.Goals as goal

pub returns : goal.returns
returns g c =
    puts_inter g.B.BinSink.stands_for c.args.sink.now c.put_bin.new.sink
    c.put_prediction_unit.new.sink c.put_bin-2.new.sink c.put_rooted.new.sink c.args.references
    (size_of c.args.levels.now)
    (record {
      ref_idx_l0 = c.args.reference;
      mvp_l0_flag = c.args.flag;
      MvdL0 = c.args.difference;
    })
    (units_of c.args.levels.now) c.has_levels-rooted.result c.has_levels-rooted.ensures
    c.put_bin.ensures c.put_prediction_unit.ensures c.put_bin-2.ensures c.put_rooted.ensures
