use Rattle.std.proofs.Common.{arith, ap, ◌∙◌}
use Rattle.hv_kernel.specs.Differences.{sad_of}
use Rattle.hv_search.proofs.SadLemmas.{sad_of_four_runs}
use Rattle.hv_search.proofs.nodes.sad_of_squares.Goals as goal

pub returns-clause-value : goal.returns-clause-value
returns-clause-value c =
    c.sad_of_lanes.ensures.value ∙ ap (λ b. sad_of b c.four_runs.result) c.requires.block ∙ ap (sad_of _) c.four_runs.ensures ∙
    sad_of_four_runs c.args.packed.now c.args.at c.args.window.now c.args.there (omega (arith, c.requires.first, c.told-packed)) (omega (arith, c.requires.second, c.told-window))
