use Rattle.hv_tree_model.specs.Plans.{prediction_of}
use Rattle.hv_syntax.specs.Levels.{unit_of}
use Rattle.hv_syntax.proofs.PartLemmas.{puts_transform_unit}
use Rattle.hv_syntax.proofs.transform.put_transform_unit.Goals as goal

pub returns : goal.returns
returns g c =
    puts_transform_unit g.B.BinSink.stands_for c.args.sink.now c.put_luma_flag.new.sink
    c.put_block.new.sink c.put_block-2.new.sink c.put_block-3.new.sink (prediction_of c.args.pred)
    c.args.unit.now.log2 c.args.depth (unit_of c.args.unit.now)
    c.put_luma_flag.ensures c.put_block.ensures c.put_block-2.ensures c.put_block-3.ensures
