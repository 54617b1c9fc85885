use Rattle.std.proofs.Common.{◌+◌, ◌*◌}
use Rattle.hv_filter_model.specs.Blocks.{joined_sample}
use Rattle.hv_filter.specs.JoinedPicture.{lists_of, IsFilledTo}
use Rattle.hv_filter.proofs.join.join_part.Given as goal

abbrev pub invariant-loop-x : goal.invariant-loop-x
invariant-loop-x g l =
    IsFilledTo (l.y * l.fn.plane.width + l.x) l.fn.plane.width l.fn.plane.height
    (joined_sample l.side l.across (lists_of l.fn.component (g.B.Blocks.blocks l.blocks))) l.plane
