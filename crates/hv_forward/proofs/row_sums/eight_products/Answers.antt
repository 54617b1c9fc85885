use Rattle.std.proofs.Common.{ℕ, ℤ, ◌+ℤ◌}
use Rattle.hv_forward.specs.Forward.{quarter_sum}
use Rattle.hv_lanes.proofs.FourLaneLemmas.{kept_four}
use Rattle.hv_forward.proofs.RowLaneLemmas.{kept_eight}
use Rattle.hv_forward.proofs.row_sums.eight_products.Goals as goal

pub returns : goal.returns
returns c = λ most f few h.
    let x = kept_eight most f c.args.x few h in
    let low = c.low_quads.ensures most f few x in
    let high = c.high_quads.ensures most f few x in
    let p : ℕ → ℤ = quarter_sum c.args.first.now f 0 in
    let q : ℕ → ℤ = quarter_sum c.args.second.now f 1 in
    kept_four (λ j. p j +ℤ q j) c.sums.result (c.sums.ensures p q (kept_four p c.low_quads.result low) (kept_four q c.high_quads.result high))
