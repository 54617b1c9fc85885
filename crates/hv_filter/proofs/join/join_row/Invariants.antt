use Rattle.std.proofs.Common.{◌+◌, ◌*◌, min}
use Rattle.hv_filter_model.specs.Blocks.{joined_sample}
use Rattle.hv_filter.specs.JoinedPicture.{lists_of, IsFilledTo}
use Rattle.hv_filter.proofs.join.join_row.Given as goal

abbrev pub invariant-loop-column : goal.invariant-loop-column
invariant-loop-column g l =
    IsFilledTo (l.y * l.fn.plane.width + min (l.column * l.side) l.fn.plane.width)
    l.fn.plane.width l.fn.plane.height
    (joined_sample l.side l.across (lists_of l.component (g.B.Blocks.blocks l.blocks))) l.plane
