use Rattle.std.proofs.Common.{◌≡◌, ◌∙◌, ap, sym, arith, get_or, pos, rules, List, ℕ, take, length}
use Rattle.std.specs.Int.{is_negative}
use Rattle.std.specs.Int.RustNames.{unsigned_abs}
use Rattle.hv_residual_model.specs.ResidualBins.{magnitudes}
use Rattle.hv_plan.specs.Levels.{is_significant}
use Rattle.std.proofs.lemmas.List.{length-set, length-take-le}
use Rattle.hv_lemmas.proofs.BooleanLemmas.{one_at_most, one_of}
use Rattle.hv_residual.proofs.SignificanceLemmas.{magnitude_step, sign_step, no_magnitude}
use Rattle.hv_residual.proofs.significance.nonzero_levels.Goals as goal

pub loop-level-preserved : goal.loop-level-preserved
loop-level-preserved c =
    let levels = c.args.levels.now in
    let i = c.loop-level.level-index in
    let n = c.loop-level.count in
    let eb : c.is_significant.result ≡ is_significant (get_or levels i (pos 0)) = search rules in
    let em : c.unsigned_abs.result ≡ unsigned_abs (get_or levels i (pos 0)) = search rules in
    let ev : c.is_negative.result ≡ is_negative (get_or levels i (pos 0)) = search rules in
    let one = c.from-count.ensures ∙ one_of c.is_significant.result in
    record {
      room = length-set c.loop-level.all n _ ∙ c.loop-level.invariant.room;
      room_of_signs = length-set c.loop-level.negative n _ ∙ c.loop-level.invariant.room_of_signs;
      few = omega (arith, c.loop-level.invariant.few, one, one_at_most c.is_significant.result);
      magnitudes = magnitude_step c.loop-level.all n i _ _ levels c.is_significant.result (omega arith)
          (omega arith) one eb em
          c.loop-level.invariant.magnitudes;
      signs = sign_step c.loop-level.negative n i _ levels c.is_significant.result _ (omega arith)
          (omega arith) one eb ev
          c.loop-level.invariant.signs;
    }

pub returns-clause-count : goal.returns-clause-count
returns-clause-count c =
    let all : List ℕ = take c.loop-level.count c.loop-level.all in
    let e : all ≡ magnitudes c.args.levels.now =
    sym (no_magnitude c.args.levels.now c.loop-level.level-index all c.loop-level-test.false) ∙
    c.loop-level.invariant.magnitudes in
    let n = length-take-le c.loop-level.count c.loop-level.all (omega arith) in
    sym n ∙ ap length e
