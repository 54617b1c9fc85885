use Rattle.hv_syntax.proofs.SeenLemmas.{own_left, side_left, none_left}
use Rattle.hv_syntax.proofs.seen.left_unit.Goals as goal

pub returns-then-column-gt0 : goal.returns-then-column-gt0
returns-then-column-gt0 c =
    own_left c.args.block.now c.args.address c.column_of-column.result c.row_of-row.result
    c.address_of.result c.own_unit.result c.column_of-column.ensures.value c.row_of-row.ensures.value
    c.if-column-gt0.true c.address_of.ensures.value c.own_unit.ensures

pub returns-then-block-gt0 : goal.returns-then-block-gt0
returns-then-block-gt0 c =
    side_left c.args.block.now c.args.address c.column_of-column.result c.row_of-row.result _
    c.column_of-column.ensures.value c.row_of-row.ensures.value c.if-column-gt0.false c.if-block-gt0.true
    c.side_unit.ensures

pub returns : goal.returns
returns c =
    none_left c.args.block.now c.args.address c.column_of-column.result c.column_of-column.ensures.value
    c.if-column-gt0.false c.if-block-gt0.false
