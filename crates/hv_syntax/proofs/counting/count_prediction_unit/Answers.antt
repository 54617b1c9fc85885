use Rattle.std.proofs.Common.{arith}
use Rattle.hv_tree_model.specs.Trees.{Motion}
use Rattle.hv_syntax.proofs.CountLemmas.{length_prediction_unit}
use Rattle.hv_syntax.proofs.counting.count_prediction_unit.Goals as goal

pub returns-clause-value : goal.returns-clause-value
returns-clause-value c = λ reference flag.
    let m : Motion =
    record { ref_idx_l0 = reference; mvp_l0_flag = flag; MvdL0 = c.args.difference } in
    omega (
      arith,
      c.count_where.ensures.value,
      c.count_difference.ensures.value,
      length_prediction_unit c.args.references m,
    )
