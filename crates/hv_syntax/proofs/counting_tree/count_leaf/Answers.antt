use Rattle.std.proofs.Common.{false}
use Rattle.hv_tree_model.specs.Trees.{log2TrafoSize, transform_units}
use Rattle.hv_tree_model.specs.Plans.{prediction_of, transform_units_at}
use Rattle.hv_syntax.specs.Levels.{units_of}
use Rattle.hv_syntax.specs.Blocks.{plan_of}
use Rattle.hv_syntax.proofs.CountedLemmas.{count_leaf_bins}
use Rattle.hv_syntax.proofs.counting_tree.count_leaf.Goals as goal

pub returns-clause-value : goal.returns-clause-value
returns-clause-value c = λ s earlier r.
    count_leaf_bins s c.args.size c.args.address earlier (prediction_of c.args.pred)
    (transform_units_at (plan_of c.args.block.now) (log2TrafoSize c.args.size) c.args.address
    (transform_units c.args.size))
    (units_of c.unit_levels-levels.result) c.args.block.now.kind c.count_split-split.result
    c.count_pred_mode.result c.count_predicted.result c.unit_levels-levels.ensures.levels
    r.sees.slice_type (c.count_split-split.ensures.value s earlier false r.sees)
    c.count_pred_mode.ensures.value (c.count_predicted.ensures.value s earlier r)
