use Rattle.std.proofs.Common.{arith}
use Rattle.hv_tree_model.specs.Plans.{prediction_of}
use Rattle.hv_syntax.specs.Levels.{unit_of}
use Rattle.hv_syntax.proofs.CountLemmas.{length_single}
use Rattle.hv_syntax.proofs.counting.count_single.Goals as goal

pub returns-clause-value : goal.returns-clause-value
returns-clause-value c =
    let t = c.args.unit.now in
    omega (
      arith,
      c.count_transform_unit.ensures.value,
      length_single (prediction_of c.args.pred) t.log2 (unit_of t) t.least t.most,
    )
