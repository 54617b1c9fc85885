use Rattle.std.proofs.Common.{arith, ℕ, ℤ, ◌+◌}
use Rattle.hv_lanes.specs.Passes.{table_row}
use Rattle.hv_transform.specs.Columns.{numbers_from}
use Rattle.hv_transform.proofs.ColumnLaneLemmas.{low_lanes, high_lanes, bits_from, weights_below, others_from}
use Rattle.hv_transform.proofs.LaneHalfLemmas.{odd_lanes_32}
use Rattle.hv_transform.proofs.column_sums.column_of_32.Goals as goal

pub column_of_16-requires : goal.column_of_16-requires
column_of_16-requires g c = (
  omega arith,
  (
    omega arith,
    (
      omega arith,
      (
        omega arith,
        (
          omega arith,
          (
            omega arith,
            (
              omega arith,
              (
                omega arith,
                (
                  omega arith,
                  (bits_from 32 16 8 c.args.rows.now c.args.i c.args.p c.requires.numbers (omega arith), (c.requires.few_others, weights_below 4 5 c.args.table.now (omega arith) c.requires.weights)),
                ),
              ),
            ),
          ),
        ),
      ),
    ),
  ),
)

pub returns : goal.returns
returns g c =
    let c₀ : ℕ → ℤ = numbers_from c.args.rows.now c.args.i c.args.p in
    let even_e = others_from 2 0 c.args.p (c.args.p + 8) c.args.rows.now c.args.i c.column_of_16.result.0 (omega arith) c.column_of_16.ensures.first in
    let odd_e = odd_lanes_32 (table_row c.args.table.now 6) (table_row c.args.table.now 7) (table_row c.args.table.now 8) (table_row c.args.table.now 9) c.args.rows.now c.args.i c.args.p 0 c.sums_of_16-e.result (c.requires.weights.odd 2 0 0 (omega arith) (omega arith) (omega arith)) (c.requires.weights.odd 2 0 1 (omega arith) (omega arith) (omega arith)) (c.requires.weights.odd 2 0 2 (omega arith) (omega arith) (omega arith)) (c.requires.weights.odd 2 0 3 (omega arith) (omega arith) (omega arith)) c.sums_of_16-e.ensures in
    let even_f = others_from 2 4 c.args.p (c.args.p + 8) c.args.rows.now c.args.i c.column_of_16.result.1 (omega arith) c.column_of_16.ensures.second in
    let odd_f = odd_lanes_32 (table_row c.args.table.now 10) (table_row c.args.table.now 11) (table_row c.args.table.now 12) (table_row c.args.table.now 13) c.args.rows.now c.args.i c.args.p 1 c.sums_of_16-f.result (c.requires.weights.odd 2 1 0 (omega arith) (omega arith) (omega arith)) (c.requires.weights.odd 2 1 1 (omega arith) (omega arith) (omega arith)) (c.requires.weights.odd 2 1 2 (omega arith) (omega arith) (omega arith)) (c.requires.weights.odd 2 1 3 (omega arith) (omega arith) (omega arith)) c.sums_of_16-f.ensures in
    let even_g = others_from 2 8 c.args.p (c.args.p + 8) c.args.rows.now c.args.i c.column_of_16.result.2 (omega arith) c.column_of_16.ensures.third in
    let odd_g = odd_lanes_32 (table_row c.args.table.now 14) (table_row c.args.table.now 15) (table_row c.args.table.now 16) (table_row c.args.table.now 17) c.args.rows.now c.args.i c.args.p 2 c.sums_of_16-g.result (c.requires.weights.odd 2 2 0 (omega arith) (omega arith) (omega arith)) (c.requires.weights.odd 2 2 1 (omega arith) (omega arith) (omega arith)) (c.requires.weights.odd 2 2 2 (omega arith) (omega arith) (omega arith)) (c.requires.weights.odd 2 2 3 (omega arith) (omega arith) (omega arith)) c.sums_of_16-g.ensures in
    let even_h = others_from 2 12 c.args.p (c.args.p + 8) c.args.rows.now c.args.i c.column_of_16.result.3 (omega arith) c.column_of_16.ensures.fourth in
    let odd_h = odd_lanes_32 (table_row c.args.table.now 18) (table_row c.args.table.now 19) (table_row c.args.table.now 20) (table_row c.args.table.now 21) c.args.rows.now c.args.i c.args.p 3 c.sums_of_16-h.result (c.requires.weights.odd 2 3 0 (omega arith) (omega arith) (omega arith)) (c.requires.weights.odd 2 3 1 (omega arith) (omega arith) (omega arith)) (c.requires.weights.odd 2 3 2 (omega arith) (omega arith) (omega arith)) (c.requires.weights.odd 2 3 3 (omega arith) (omega arith) (omega arith)) c.sums_of_16-h.ensures in (
      low_lanes 2 0 c₀ c.column_of_16.result.0 c.sums_of_16-e.result c.sums.result (omega arith) (omega arith) even_e odd_e c.sums.ensures,
      low_lanes 2 4 c₀ c.column_of_16.result.1 c.sums_of_16-f.result c.sums-2.result (omega arith) (omega arith) even_f odd_f c.sums-2.ensures,
      low_lanes 2 8 c₀ c.column_of_16.result.2 c.sums_of_16-g.result c.sums-3.result (omega arith) (omega arith) even_g odd_g c.sums-3.ensures,
      low_lanes 2 12 c₀ c.column_of_16.result.3 c.sums_of_16-h.result c.sums-4.result (omega arith) (omega arith) even_h odd_h c.sums-4.ensures,
      high_lanes 2 12 16 c₀ c.column_of_16.result.3 c.sums_of_16-h.result c.mirrored_differences.result (omega arith) (omega arith) (omega arith) even_h odd_h c.mirrored_differences.ensures,
      high_lanes 2 8 20 c₀ c.column_of_16.result.2 c.sums_of_16-g.result c.mirrored_differences-2.result (omega arith) (omega arith) (omega arith) even_g odd_g c.mirrored_differences-2.ensures,
      high_lanes 2 4 24 c₀ c.column_of_16.result.1 c.sums_of_16-f.result c.mirrored_differences-3.result (omega arith) (omega arith) (omega arith) even_f odd_f c.mirrored_differences-3.ensures,
      high_lanes 2 0 28 c₀ c.column_of_16.result.0 c.sums_of_16-e.result c.mirrored_differences-4.result (omega arith) (omega arith) (omega arith) even_e odd_e c.mirrored_differences-4.ensures,
    )
