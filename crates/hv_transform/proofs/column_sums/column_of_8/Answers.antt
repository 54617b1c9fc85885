use Rattle.std.proofs.Common.{arith}
use Rattle.hv_lanes.specs.Passes.{table_row}
use Rattle.hv_transform.specs.Columns.{numbers_from}
use Rattle.hv_transform.proofs.ColumnLaneLemmas.{low_lanes, high_lanes}
use Rattle.hv_transform.proofs.LaneHalfLemmas.{even_lanes, odd_lanes_8}
use Rattle.hv_transform.proofs.column_sums.column_of_8.Goals as goal

pub returns-clause-first : goal.returns-clause-first
returns-clause-first g c =
    low_lanes 0 0 (numbers_from c.args.rows.now c.args.i c.args.p) c.lane_sums-even.result c.lane_sums-odd.result c.sums.result (omega arith) (omega arith)
    (even_lanes (table_row c.args.table.now 0) c.args.rows.now c.args.i c.args.p c.lane_sums-even.result c.requires.weights.even c.lane_sums-even.ensures)
    (odd_lanes_8 (table_row c.args.table.now 1) c.args.rows.now c.args.i c.args.p c.lane_sums-odd.result (c.requires.weights.odd 0 0 0 (omega arith) (omega arith) (omega arith)) c.lane_sums-odd.ensures)
    c.sums.ensures

pub returns-clause-second : goal.returns-clause-second
returns-clause-second g c =
    high_lanes 0 0 4 (numbers_from c.args.rows.now c.args.i c.args.p) c.lane_sums-even.result c.lane_sums-odd.result c.mirrored_differences.result (omega arith) (omega arith) (omega arith)
    (even_lanes (table_row c.args.table.now 0) c.args.rows.now c.args.i c.args.p c.lane_sums-even.result c.requires.weights.even c.lane_sums-even.ensures)
    (odd_lanes_8 (table_row c.args.table.now 1) c.args.rows.now c.args.i c.args.p c.lane_sums-odd.result (c.requires.weights.odd 0 0 0 (omega arith) (omega arith) (omega arith)) c.lane_sums-odd.ensures)
    c.mirrored_differences.ensures
