use Rattle.hv_syntax.proofs.SeenLemmas.{own_above, side_above, none_above}
use Rattle.hv_syntax.proofs.seen.above_unit.Goals as goal

pub returns-then-row-gt0 : goal.returns-then-row-gt0
returns-then-row-gt0 c =
    own_above c.args.block.now c.args.address c.column_of-column.result c.row_of-row.result
    c.address_of.result c.own_unit.result c.column_of-column.ensures.value c.row_of-row.ensures.value
    c.if-row-gt0.true c.address_of.ensures.value c.own_unit.ensures

pub returns-then-block-gt0 : goal.returns-then-block-gt0
returns-then-block-gt0 c =
    side_above c.args.block.now c.args.address c.column_of-column.result c.row_of-row.result _
    c.column_of-column.ensures.value c.row_of-row.ensures.value c.if-row-gt0.false c.if-block-gt0.true
    c.side_unit.ensures

pub returns : goal.returns
returns c =
    none_above c.args.block.now c.args.address c.row_of-row.result c.row_of-row.ensures.value
    c.if-row-gt0.false c.if-block-gt0.false
