use Rattle.std.proofs.Common.{ap, ◌∙◌}
use Rattle.std.specs.Int.{abs_diff}
use Rattle.std.specs.Simd.Lanes.{sum_l}
use Rattle.hv_kernel.proofs.LaneLemmas.{sum_of_measures}
use Rattle.hv_search.proofs.lanes.sad_of_lanes.Goals as goal

pub returns-clause-value : goal.returns-clause-value
returns-clause-value g c =
    c.total.ensures.value ∙ ap sum_l c.gaps.ensures ∙ sum_of_measures abs_diff c.args.a c.args.b
