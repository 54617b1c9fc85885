use Rattle.std.proofs.Common.{arith, ℕ, ℤ, ◌*◌, ◌+◌}
use Rattle.hv_transform.specs.Columns.{lane_sum, two_sums}
use Rattle.hv_transform.proofs.ColumnLaneLemmas.{bits_from, chosen, more_of_0, few_sum}
use Rattle.hv_lanes.proofs.FourLaneLemmas.{kept_four, is_set}
use Rattle.hv_transform.proofs.column_sums.sums_of_8.Goals as goal
use Rattle.hv_transform.proofs.column_sums.sums_of_8.Goals.{then-this-ne0, else-this-ne0}

pub lane_sums-requires-else-this-ne0-2 : goal.lane_sums-requires-else-this-ne0-2
lane_sums-requires-else-this-ne0-2 g c =
    (omega arith, (omega arith, (omega arith, (omega arith, (omega arith, (omega arith, (bits_from 8 4 2 c.args.rows.now c.args.i c.args.p c.requires.numbers (omega arith), c.requires.second)))))))

pub returns : goal.returns
returns g c =
    let f : ℕ → ℤ = lane_sum c.args.first.now c.args.rows.now c.args.i (2 * c.args.p) in
    let h : ℕ → ℤ = lane_sum c.args.second.now c.args.rows.now c.args.i (2 * (c.args.p + 2)) in
    let both : ℕ → ℤ = two_sums c.args.first.now c.args.second.now c.args.rows.now c.args.i c.args.p in
    elim c.if-this-ne0.branch [
      | then-this-ne0 w ↦ chosen both w.lane_sums.result c.if-this-ne0.result w.result-is
          (more_of_0 f h w.lane_sums.result
          (λ j. few_sum 8 2 c.args.second.now c.args.rows.now c.args.i c.args.p j (c.requires.few (is_set g.row.FEW w.if-this-ne0.true)) (omega arith) (omega arith))
          w.lane_sums.ensures)
      | else-this-ne0 w ↦ chosen both w.sums.result c.if-this-ne0.result w.result-is
          (w.sums.ensures f h (kept_four f w.lane_sums-else-this-ne0.result w.lane_sums-else-this-ne0.ensures) (kept_four h w.lane_sums-else-this-ne0-2.result w.lane_sums-else-this-ne0-2.ensures))
    ]
