use Rattle.std.proofs.Common.{arith, ℕ, ℤ, ◌+ℤ◌, ◌+◌, ◌-◌, ◌*◌}
use Rattle.std.specs.Prelude.{◌-ℤ◌}
use Rattle.hv_lanes.specs.Passes.{table_row}
use Rattle.hv_forward.specs.Forward.{quarter_sum, row_sum}
use Rattle.hv_lanes.proofs.FourLaneLemmas.{kept_four, same_lanes}
use Rattle.hv_forward.proofs.RowLaneLemmas.{kept_eight}
use Rattle.hv_forward.proofs.RowSumLemmas.{even_quarter, odd_quarter}
use Rattle.hv_forward.proofs.row_sums.halves_of_8.Goals as goal

pub returns-clause-even : goal.returns-clause-even
returns-clause-even g c = λ most f few h.
    let x = kept_eight most f c.args.x (omega (arith, few)) h in
    let d : ℕ → ℤ = λ x. f x +ℤ f (7 - x) in
    let w = table_row c.args.table.now 0 in
    let folds = c.folded.ensures.sums most f f few x x in
    let quads = c.low_quads.ensures (2 * most) d (omega (arith, few)) (kept_eight (2 * most) d c.folded.result.0 (omega (arith, few)) folds) in
    kept_four (λ j. row_sum 3 f (2 * j)) c.low_quads.result
    (same_lanes (quarter_sum w d 0) (λ j. row_sum 3 f (2 * j)) c.low_quads.result (λ j below. even_quarter w f j c.requires.weights.four below) quads)

pub returns-clause-odd : goal.returns-clause-odd
returns-clause-odd g c = λ most f few h.
    let x = kept_eight most f c.args.x (omega (arith, few)) h in
    let d : ℕ → ℤ = λ x. f x -ℤ f (7 - x) in
    let w = table_row c.args.table.now 1 in
    let folds = c.folded.ensures.differences most f f few x x in
    let quads = c.low_quads-2.ensures (2 * most) d (omega (arith, few)) (kept_eight (2 * most) d c.folded.result.1 (omega (arith, few)) folds) in
    kept_four (λ j. row_sum 3 f (2 * j + 1)) c.low_quads-2.result
    (same_lanes (quarter_sum w d 0) (λ j. row_sum 3 f (2 * j + 1)) c.low_quads-2.result (λ j below. odd_quarter w f j (c.requires.weights.odd 0 0 0 (omega arith) (omega arith) (omega arith)) below) quads)
