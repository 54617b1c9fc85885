use Rattle.std.proofs.Common.{arith}
use Rattle.hv_tree_model.specs.Plans.{prediction_of}
use Rattle.hv_syntax.specs.Levels.{unit_of}
use Rattle.hv_syntax.proofs.CountLemmas.{length_quarters}
use Rattle.hv_syntax.proofs.counting.count_four.Goals as goal

pub returns-clause-value : goal.returns-clause-value
returns-clause-value c =
    let q = c.args.quarters.now in
    omega (
      arith,
      c.count_quarter-first.ensures.value,
      c.count_quarter-second.ensures.value,
      c.count_quarter-third.ensures.value,
      c.count_quarter-fourth.ensures.value,
      length_quarters (prediction_of c.args.pred) c.cbf_cb-cb.result c.cbf_cr-cr.result
          (unit_of q.first) (unit_of q.second) (unit_of q.third) (unit_of q.fourth) c.cbf_cb-cb.ensures
          c.cbf_cr-cr.ensures,
    )
