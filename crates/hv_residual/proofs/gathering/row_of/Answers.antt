use Rattle.std.proofs.Common.{◌≡◌, ◌+◌, ◌*◌, ◌^◌, arith}
use Rattle.hv_residual.proofs.ScanLemmas.{inside_block}
use Rattle.hv_residual.proofs.gathering.row_of.Goals as goal

pub four_of-requires : goal.four_of-requires
four_of-requires c =
    let h = inside_block c.args.block.log2 c.args.corner.x c.args.corner.y 3 c.args.y c.args.block.least
    c.requires.column c.requires.row (omega arith) c.requires.y in
    rw (c.from-row.ensures, c.from.ensures, c.side.ensures.value, c.requires.whole) (omega (arith, h))

pub returns : goal.returns
returns c = λ x h.
    let e : (4 * c.args.corner.y + c.args.y) * 2 ^ c.args.block.log2 + (4 * c.args.corner.x + x) ≡
    c.from-row.result * c.side.result + c.from.result + x =
    rw (c.from-row.ensures, c.from.ensures, c.side.ensures.value) (omega arith) in
    rw e (c.four_of.ensures x h)
