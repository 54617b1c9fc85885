use Rattle.std.proofs.Common.{◌≡◌, get_or, pos, rules}
use Rattle.std.specs.Int.RustNames.{unsigned_abs}
use Rattle.hv_residual.proofs.SmallLevelLemmas.{greatest_step, greatest_end}
use Rattle.hv_residual.proofs.counting.greatest_magnitude.Goals as goal

pub loop-level-preserved : goal.loop-level-preserved
loop-level-preserved c =
    let levels = c.args.levels.now in
    let i = c.loop-level.level-index in
    let em : c.unsigned_abs.result ≡ unsigned_abs (get_or levels i (pos 0)) = search rules in
    greatest_step levels i c.loop-level.greatest c.unsigned_abs.result _ c.loop-level-test.true em
    c.max-greatest.ensures c.loop-level.invariant

pub returns : goal.returns
returns c = greatest_end c.args.levels.now c.loop-level.level-index _ c.loop-level-test.false
    c.loop-level.invariant
