use Rattle.std.proofs.Common.{◌+◌, ◌*◌, ◌<◌, arith, refl}
use Rattle.hv_filter_model.specs.Blocks.{joined_sample}
use Rattle.hv_filter.specs.JoinedPicture.{lists_of}
use Rattle.hv_filter.proofs.JoinLemmas.{filled_more, part_sample}
use Rattle.hv_filter.proofs.join.join_part.Goals as goal

pub loop-x-preserved : goal.loop-x-preserved
loop-x-preserved g c =
    let before : c.loop-x.x < c.args.plane.now.width =
    omega (arith, c.min.ensures, c.width-width.ensures.value, c.loop-x-test.true) in
    rw c.set.ensures
    (filled_more (c.args.y * c.args.plane.now.width + c.loop-x.x) _ c.args.plane.now.width
    c.args.plane.now.height c.loop-x.x c.args.y _
    (joined_sample c.args.side c.args.across
    (lists_of c.args.component (g.B.Blocks.blocks c.args.blocks.now)))
    c.loop-x.plane before c.requires.down refl (omega arith)
    (part_sample c.args.component c.args.side c.args.across c.args.y c.args.column c.loop-x.x
    (g.B.Blocks.blocks c.args.blocks.now) c.block-block.result.now c.of-samples.result.now
    c.block-block.ensures c.of-samples.ensures.value (omega arith)
    (omega (arith, c.min.ensures, c.loop-x-test.true)))
    c.loop-x.invariant)
