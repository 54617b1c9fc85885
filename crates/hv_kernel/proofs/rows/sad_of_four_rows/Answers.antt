use Rattle.std.proofs.Common.{◌≡◌, ℕ, List, ◌+◌, ◌<◌, ◌++◌, ◌∙◌, ap, sym, length, arith}
use Rattle.hv_kernel.specs.Differences.{sad_of}
use Rattle.hv_kernel.specs.Blocks.{row_of, sum_of_rows}
use Rattle.hv_kernel.proofs.RowLemmas.{length-row_of_block, four_rows_more}
use Rattle.hv_kernel.proofs.rows.sad_of_four_rows.Goals as goal

pub returns-clause-value : goal.returns-clause-value
returns-clause-value c =
    let a = c.args.blocks.first in
    let b = c.args.blocks.second in
    let xs : ℕ → List ℕ = row_of a in
    let ys : ℕ → List ℕ = row_of b in
    let y : ℕ = c.args.y in
    let even : (k : ℕ) → k < y + 4 → length (xs k) ≡ length (ys k) = λ k below.
    length-row_of_block a.samples.now a.stride a.columns a.rows k a.whole (omega arith) ∙
    sym c.args.blocks.columns ∙
    sym (length-row_of_block b.samples.now b.stride b.columns b.rows k b.whole (omega (arith, c.args.blocks.rows))) in
    let value : c.sad_of_lanes.result ≡ sad_of ((xs y ++ xs (y + 1)) ++ (xs (y + 2) ++ xs (y + 3))) ((ys y ++ ys (y + 1)) ++ (ys (y + 2) ++ ys (y + 3))) =
    rw (← c.four_rows.ensures, ← c.four_rows-2.ensures) c.sad_of_lanes.ensures.value in
    four_rows_more xs ys y (even y (omega arith)) (even (y + 1) (omega arith)) (even (y + 2) (omega arith)) ∙
    ap (λ s. sum_of_rows (λ k. sad_of (xs k) (ys k)) y + s) (sym value)
