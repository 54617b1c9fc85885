use Rattle.std.proofs.Common.{◌≡◌, ◌∙◌, get_or, pos, rules, arith}
use Rattle.std.specs.Int.RustNames.{unsigned_abs}
use Rattle.hv_lemmas.proofs.BooleanLemmas.{one_at_most, one_of}
use Rattle.hv_plan.specs.Levels.{is_significant}
use Rattle.hv_residual.proofs.SmallLevelLemmas.{small_level_count, one_small, small_step, small_end}
use Rattle.hv_residual.proofs.counting.count_small_levels.Goals as goal

pub loop-level-preserved : goal.loop-level-preserved
loop-level-preserved c =
    let levels = c.args.levels.now in
    let i = c.loop-level.level-index in
    let eb : c.is_significant.result ≡ is_significant (get_or levels i (pos 0)) = search rules in
    let em : c.unsigned_abs.result ≡ unsigned_abs (get_or levels i (pos 0)) = search rules in
    let one = c.from.ensures ∙ one_of c.is_significant.result in
    let small = one_small levels i c.loop-level-test.true c.requires.small in
    record {
      most = omega (arith, c.loop-level.invariant.most, em, small, one, one_at_most c.is_significant.result);
      value = small_step levels i c.loop-level.total c.unsigned_abs.result c.from.result
          c.is_significant.result c.loop-level-test.true em eb one c.loop-level.invariant.value;
    }

pub returns-clause-value : goal.returns-clause-value
returns-clause-value c =
    c.from-2.ensures ∙
    small_end c.args.levels.now c.loop-level.level-index c.loop-level.total c.loop-level-test.false
    c.loop-level.invariant.value ∙
    small_level_count c.args.levels.now c.requires.small
