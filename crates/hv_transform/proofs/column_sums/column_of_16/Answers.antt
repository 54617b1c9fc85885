use Rattle.std.proofs.Common.{arith, ◌+◌}
use Rattle.hv_lanes.specs.Passes.{table_row}
use Rattle.hv_transform.specs.Columns.{numbers_from}
use Rattle.hv_transform.proofs.ColumnLaneLemmas.{low_lanes, high_lanes, bits_from, weights_below, others_from}
use Rattle.hv_transform.proofs.LaneHalfLemmas.{odd_lanes_16}
use Rattle.hv_transform.proofs.column_sums.column_of_16.Goals as goal

pub column_of_8-requires : goal.column_of_8-requires
column_of_8-requires g c = (
  omega arith,
  (
    omega arith,
    (
      omega arith,
      (
        omega arith,
        (
          omega arith,
          (
            omega arith,
            (
              omega arith,
              (
                omega arith,
                (
                  omega arith,
                  (bits_from 16 8 4 c.args.rows.now c.args.i c.args.p c.requires.numbers (omega arith), weights_below 3 4 c.args.table.now (omega arith) c.requires.weights),
                ),
              ),
            ),
          ),
        ),
      ),
    ),
  ),
)

pub returns-clause-first : goal.returns-clause-first
returns-clause-first g c =
    low_lanes 1 0 (numbers_from c.args.rows.now c.args.i c.args.p) c.column_of_8.result.0 c.sums_of_8-odd_first.result c.sums.result (omega arith) (omega arith)
    (others_from 1 0 c.args.p (c.args.p + 4) c.args.rows.now c.args.i c.column_of_8.result.0 (omega arith) c.column_of_8.ensures.first)
    (odd_lanes_16 (table_row c.args.table.now 2) (table_row c.args.table.now 3) c.args.rows.now c.args.i c.args.p 0 c.sums_of_8-odd_first.result (c.requires.weights.odd 1 0 0 (omega arith) (omega arith) (omega arith)) (c.requires.weights.odd 1 0 1 (omega arith) (omega arith) (omega arith)) c.sums_of_8-odd_first.ensures)
    c.sums.ensures

pub returns-clause-second : goal.returns-clause-second
returns-clause-second g c =
    low_lanes 1 4 (numbers_from c.args.rows.now c.args.i c.args.p) c.column_of_8.result.1 c.sums_of_8-odd_second.result c.sums-2.result (omega arith) (omega arith)
    (others_from 1 4 c.args.p (c.args.p + 4) c.args.rows.now c.args.i c.column_of_8.result.1 (omega arith) c.column_of_8.ensures.second)
    (odd_lanes_16 (table_row c.args.table.now 4) (table_row c.args.table.now 5) c.args.rows.now c.args.i c.args.p 1 c.sums_of_8-odd_second.result (c.requires.weights.odd 1 1 0 (omega arith) (omega arith) (omega arith)) (c.requires.weights.odd 1 1 1 (omega arith) (omega arith) (omega arith)) c.sums_of_8-odd_second.ensures)
    c.sums-2.ensures

pub returns-clause-third : goal.returns-clause-third
returns-clause-third g c =
    high_lanes 1 4 8 (numbers_from c.args.rows.now c.args.i c.args.p) c.column_of_8.result.1 c.sums_of_8-odd_second.result c.mirrored_differences.result (omega arith) (omega arith) (omega arith)
    (others_from 1 4 c.args.p (c.args.p + 4) c.args.rows.now c.args.i c.column_of_8.result.1 (omega arith) c.column_of_8.ensures.second)
    (odd_lanes_16 (table_row c.args.table.now 4) (table_row c.args.table.now 5) c.args.rows.now c.args.i c.args.p 1 c.sums_of_8-odd_second.result (c.requires.weights.odd 1 1 0 (omega arith) (omega arith) (omega arith)) (c.requires.weights.odd 1 1 1 (omega arith) (omega arith) (omega arith)) c.sums_of_8-odd_second.ensures)
    c.mirrored_differences.ensures

pub returns-clause-fourth : goal.returns-clause-fourth
returns-clause-fourth g c =
    high_lanes 1 0 12 (numbers_from c.args.rows.now c.args.i c.args.p) c.column_of_8.result.0 c.sums_of_8-odd_first.result c.mirrored_differences-2.result (omega arith) (omega arith) (omega arith)
    (others_from 1 0 c.args.p (c.args.p + 4) c.args.rows.now c.args.i c.column_of_8.result.0 (omega arith) c.column_of_8.ensures.first)
    (odd_lanes_16 (table_row c.args.table.now 2) (table_row c.args.table.now 3) c.args.rows.now c.args.i c.args.p 0 c.sums_of_8-odd_first.result (c.requires.weights.odd 1 0 0 (omega arith) (omega arith) (omega arith)) (c.requires.weights.odd 1 0 1 (omega arith) (omega arith) (omega arith)) c.sums_of_8-odd_first.ensures)
    c.mirrored_differences-2.ensures
