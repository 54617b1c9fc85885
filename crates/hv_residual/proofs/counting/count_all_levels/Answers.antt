use Rattle.std.proofs.Common.{take, ◌∙◌, arith}
use Rattle.hv_residual.proofs.CountLemmas.{level_count_parts}
use Rattle.hv_residual.proofs.counting.count_all_levels.Goals as goal
use Rattle.hv_lemmas.proofs.BooleanLemmas.{one_of}

pub returns-clause-value : goal.returns-clause-value
returns-clause-value c =
    let r = c.nonzero_levels-nonzero in
    level_count_parts c.args.levels.now (take r.result r.new.all) r.result c.first_above_1-first.result
    c.min.result c.from.result c.count_all_remaining-remaining.result
    r.ensures.magnitudes r.ensures.count
    c.first_above_1-first.ensures (omega (arith, c.min.ensures)) (c.from.ensures ∙ one_of _)
    c.count_all_remaining-remaining.ensures.value
