use Rattle.hv_tree_model.specs.Trees.{log2TrafoSize, transform_units}
use Rattle.hv_tree_model.specs.Plans.{prediction_of, transform_units_at}
use Rattle.hv_syntax.specs.Levels.{units_of}
use Rattle.hv_syntax.specs.Blocks.{plan_of}
use Rattle.hv_syntax.proofs.QuadtreeLemmas.{puts_leaf}
use Rattle.hv_syntax.proofs.quadtree.put_leaf.Goals as goal

pub returns : goal.returns
returns g c = λ s earlier r.
    puts_leaf g.B.BinSink.stands_for c.args.sink.now c.put_split.new.sink c.put_pred_mode.new.sink
    c.put_predicted.new.sink s c.args.size c.args.address earlier (prediction_of c.args.pred)
    (transform_units_at (plan_of c.args.block.now) (log2TrafoSize c.args.size) c.args.address
    (transform_units c.args.size))
    (units_of c.unit_levels-levels.result) c.args.block.now.kind c.unit_levels-levels.ensures.levels
    r.sees.slice_type (c.put_split.ensures s earlier r) c.put_pred_mode.ensures
    (c.put_predicted.ensures s earlier r)
