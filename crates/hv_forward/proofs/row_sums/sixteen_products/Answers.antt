use Rattle.std.proofs.Common.{ℕ, ℤ, ◌+ℤ◌, ◌+◌}
use Rattle.hv_lanes.specs.Passes.{table_row}
use Rattle.hv_forward.specs.Forward.{quarter_sum}
use Rattle.hv_lanes.proofs.FourLaneLemmas.{kept_four}
use Rattle.hv_forward.proofs.RowLaneLemmas.{kept_eight}
use Rattle.hv_forward.proofs.row_sums.sixteen_products.Goals as goal

pub returns : goal.returns
returns g c = λ most f h few x y.
    let i : ℕ = c.args.at in
    let p : ℕ → ℤ = λ j. quarter_sum (table_row c.args.table.now i) f 0 j +ℤ quarter_sum (table_row c.args.table.now (i + 1)) f 1 j in
    let q : ℕ → ℤ = λ j. quarter_sum (table_row c.args.table.now (i + 2)) h 0 j +ℤ quarter_sum (table_row c.args.table.now (i + 3)) h 1 j in
    kept_four (λ j. p j +ℤ q j) c.sums.result
    (c.sums.ensures p q (kept_four p c.eight_products.result (c.eight_products.ensures most f few (kept_eight most f c.args.x few x)))
    (kept_four q c.eight_products-2.result (c.eight_products-2.ensures most h few (kept_eight most h c.args.y few y))))
