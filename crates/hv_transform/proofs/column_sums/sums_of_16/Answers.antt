use Rattle.std.proofs.Common.{arith, sym, true≢false, ℕ, ℤ, ◌+ℤ◌, ◌*◌, ◌+◌}
use Rattle.hv_transform.specs.Columns.{lane_sum, two_sums}
use Rattle.hv_transform.proofs.ColumnLaneLemmas.{bits_from, chosen, more_of_0, few_sum, few_sums}
use Rattle.hv_lanes.proofs.FourLaneLemmas.{kept_four, is_set}
use Rattle.hv_transform.proofs.column_sums.sums_of_16.Goals as goal
use Rattle.hv_transform.proofs.column_sums.sums_of_16.Goals.{then-this-ne0, else-this-ne0}

pub sums_of_8-requires-else-this-ne0 : goal.sums_of_8-requires-else-this-ne0
sums_of_8-requires-else-this-ne0 g c = (
  omega arith,
  (
    omega arith,
    (
      omega arith,
      (
        omega arith,
        (
          omega arith,
          (
            omega arith,
            (bits_from 16 8 4 c.args.rows.now c.args.i c.args.p c.requires.numbers (omega arith), ((λ never. absurd (true≢false (sym never))), (c.requires.third, c.requires.fourth))),
          ),
        ),
      ),
    ),
  ),
)

pub returns : goal.returns
returns g c =
    let f : ℕ → ℤ = two_sums c.args.first.now c.args.second.now c.args.rows.now c.args.i c.args.p in
    let h : ℕ → ℤ = two_sums c.args.third.now c.args.fourth.now c.args.rows.now c.args.i (c.args.p + 4) in
    let one : ℕ → ℤ = lane_sum c.args.first.now c.args.rows.now c.args.i (2 * c.args.p) in
    let two : ℕ → ℤ = lane_sum c.args.second.now c.args.rows.now c.args.i (2 * (c.args.p + 2)) in
    let both : ℕ → ℤ = λ j. f j +ℤ h j in
    elim c.if-this-ne0.branch [
      | then-this-ne0 w ↦
          let few = c.requires.few (is_set g.row.FEW w.if-this-ne0.true) in
          chosen both w.lane_sums.result c.if-this-ne0.result w.result-is
          (more_of_0 f h w.lane_sums.result (λ j. few_sums c.args.third.now c.args.fourth.now c.args.rows.now c.args.i c.args.p j few)
          (more_of_0 one two w.lane_sums.result (λ j. few_sum 16 2 c.args.second.now c.args.rows.now c.args.i c.args.p j few (omega arith) (omega arith)) w.lane_sums.ensures))
      | else-this-ne0 w ↦ chosen both w.sums.result c.if-this-ne0.result w.result-is
          (w.sums.ensures f h (kept_four f w.sums_of_8.result w.sums_of_8.ensures) (kept_four h w.sums_of_8-else-this-ne0.result w.sums_of_8-else-this-ne0.ensures))
    ]
