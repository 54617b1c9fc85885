use Rattle.std.proofs.Common.{arith}
use Rattle.hv_tree_model.specs.Trees.{Motion}
use Rattle.hv_syntax.specs.Levels.{units_of, size_of}
use Rattle.hv_syntax.proofs.CountLemmas.{length_inter}
use Rattle.hv_syntax.proofs.counting.count_inter.Goals as goal

pub returns-clause-value : goal.returns-clause-value
returns-clause-value c =
    let m : Motion = record {
      ref_idx_l0 = c.args.reference;
      mvp_l0_flag = c.args.flag;
      MvdL0 = c.args.difference;
    } in
    omega (
      arith,
      c.count_rooted-tree.ensures.value,
      c.count_prediction_unit.ensures.value c.args.reference c.args.flag,
      length_inter c.args.references (size_of c.args.levels.now) m (units_of c.args.levels.now),
    )
