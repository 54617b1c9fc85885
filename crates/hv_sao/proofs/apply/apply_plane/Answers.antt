use Rattle.std.proofs.Common.{◌+◌, ◌*◌, ◌/◌, length, refl, arith}
use Rattle.hv_sao.proofs.PictureLemmas.{choices_there, row_of_blocks, row_more, plane_done}
use Rattle.hv_sao.proofs.apply.apply_plane.Goals as goal

pub apply_row-requires-clause-room : goal.apply_row-requires-clause-room
apply_row-requires-clause-room c =
    choices_there c.args.deblocked.now.width c.args.side c.args.across (length c.args.sao.now) (c.loop-y.y / c.args.side * c.args.across)
    c.requires.wide
    (row_of_blocks c.loop-y.y c.args.side c.args.across (length c.args.sao.now) (c.requires.room c.loop-y.y (omega (arith, c.height-y-end.ensures.value))))

pub loop-y-preserved : goal.loop-y-preserved
loop-y-preserved c =
    row_more c.args.component c.args.sao.now c.args.side c.args.across c.loop-y.y (c.loop-y.y + 1) c.args.deblocked.now c.loop-y.shown
    c.apply_row.new.shown c.requires.least c.requires.wide
    (row_of_blocks c.loop-y.y c.args.side c.args.across (length c.args.sao.now) (c.requires.room c.loop-y.y (omega (arith, c.height-y-end.ensures.value))))
    refl c.loop-y.invariant c.apply_row.ensures

pub returns : goal.returns
returns c =
    plane_done c.args.side c.args.across _ c.args.deblocked.now c.loop-y.shown c.loop-y.y (omega (arith, c.height-y-end.ensures.value)) c.loop-y.invariant
