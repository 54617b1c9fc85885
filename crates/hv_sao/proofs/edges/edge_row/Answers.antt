use Rattle.std.proofs.Common.{arith}
use Rattle.hv_sao.proofs.EdgeLemmas.{margin_is, some_in_row}
use Rattle.hv_sao.proofs.edges.edge_row.Goals as goal

pub returns : goal.returns
returns c =
    some_in_row c.args.class c.args.plane.now c.args.y c.args.from c.args.to c.from-columns.result c.from-rows.result
    c.max-begin.result c.min-end.result c.first_column.result c.second_column.result
    c.part_of_row.result.now c.part_of_row-2.result.now c.part_of_row-3.result.now c.requires.class
    (margin_is c.args.class 1 c.from-columns.result c.from-columns.ensures)
    (margin_is c.args.class 0 c.from-rows.result c.from-rows.ensures)
    c.requires.across (omega arith) (omega arith) (omega arith) (omega arith) (omega arith) c.first_column.ensures c.second_column.ensures
    c.part_of_row.ensures.count c.part_of_row-2.ensures.count c.part_of_row-3.ensures.count
    c.part_of_row.ensures.samples c.part_of_row-2.ensures.samples c.part_of_row-3.ensures.samples
