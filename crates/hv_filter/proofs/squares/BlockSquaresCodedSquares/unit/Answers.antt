use Rattle.std.proofs.Common.{◌*◌, ◌∙◌, ap, arith}
use Rattle.hv_filter.proofs.SquareLemmas.{square_in_blocks}
use Rattle.hv_filter.proofs.squares.BlockSquaresCodedSquares.unit.Goals as goal

pub returns : goal.returns
returns g c =
    c.unit_at.ensures ∙
    ap (λ square. square.unit)
    (square_in_blocks (g.B.Blocks.blocks c.args.self.now.blocks.now)
    (8 * c.args.self.now.columns) c.args.column c.args.row c.div_ceil-across.result
    c.address_of-address.result c.block-block.result.now
    (omega (arith, c.div_ceil-across.ensures)) c.block-block.ensures
    c.address_of-address.ensures.value)
