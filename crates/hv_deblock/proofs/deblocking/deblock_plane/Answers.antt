use Rattle.hv_deblock.proofs.PlaneLemmas.{plane_deblocked}
use Rattle.hv_deblock.proofs.deblocking.deblock_plane.Goals as goal

pub returns : goal.returns
returns g c =
    plane_deblocked c.args.component c.args.qp (g.S.CodedSquares.coding c.args.squares.now) (g.S.CodedSquares.columns c.args.squares.now)
    (g.S.CodedSquares.rows c.args.squares.now) c.args.plane.now c.pass.new.plane c.pass-2.new.plane c.requires.whole c.requires.wide
    c.requires.high c.pass.ensures c.pass-2.ensures
