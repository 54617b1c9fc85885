use Rattle.std.proofs.Common.{◌++◌, ap₂, ◌∙◌, arith}
use Rattle.hv_kernel.specs.Differences.{sad_of}
use Rattle.hv_search.proofs.CoarseLemmas.{four_sums_joined}
use Rattle.hv_search.proofs.coarse.sum_of_four.Goals as goal

pub returns-clause-value : goal.returns-clause-value
returns-clause-value c =
    c.sad_of_lanes.ensures.value ∙
    ap₂ sad_of c.four_runs.ensures
    (c.join_32.ensures ∙
    ap₂ (λ u v. u ++ v)
    (c.join_16-upper.ensures ∙ ap₂ (λ u v. u ++ v) c.masked_row.ensures c.masked_row-2.ensures)
    (c.join_16-lower.ensures ∙ ap₂ (λ u v. u ++ v) c.masked_row-3.ensures c.masked_row-4.ensures)) ∙
    four_sums_joined c.args.source.now c.args.mask c.args.from c.args.window.now c.args.at c.fits-mask.0
    (omega (arith, c.told-source, c.requires.source)) (omega (arith, c.told-window, c.requires.window))
