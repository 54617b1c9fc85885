use Rattle.std.proofs.Common.{ap, ◌∙◌, ◌*◌}
use Rattle.std.specs.Simd.Lanes.{sum_l, zip2}
use Rattle.hv_kernel.proofs.LaneLemmas.{sum_of_squared_gaps}
use Rattle.hv_kernel.proofs.lanes.ssd_of_lanes.Goals as goal

pub returns-clause-value : goal.returns-clause-value
returns-clause-value g c =
    c.total_of_squares.ensures.value ∙ ap (λ d. sum_l (zip2 (λ x y. x * y) d d)) c.gaps.ensures ∙ sum_of_squared_gaps c.args.a c.args.b
