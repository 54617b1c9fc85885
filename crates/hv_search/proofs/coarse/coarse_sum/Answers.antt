use Rattle.std.proofs.Common.{◌≡◌, ℕ, ◌+◌, ◌*◌, get_or, List, ap₂, ◌∙◌, sym, arith}
use Rattle.std.specs.Int.{abs_diff}
use Rattle.hv_sample_model.specs.Blocks.{total_of}
use Rattle.hv_kernel.specs.Differences.{sad_of}
use Rattle.hv_search.proofs.CoarseLemmas.{row_at, four_rows_at, total_more, total_of_four_more, total_of_none}
use Rattle.hv_search.proofs.coarse.coarse_sum.Goals as goal

pub loop-k-init : goal.loop-k-init
loop-k-init c = (sym (total_of_none _), omega arith)

pub loop-k-preserved : goal.loop-k-preserved
loop-k-preserved c =
    let k : ℕ = c.loop-k.k in
    let s : List ℕ = c.args.source.now in
    let w : List ℕ = c.args.window.now in
    let row : ℕ → ℕ = λ j. total_of c.args.columns (λ i. abs_diff (get_or s (16 * j + i) 0) (get_or w (c.args.at + 48 * j + i) 0)) in
    let is = c.sum_of_four-sum.ensures.value ∙
    four_rows_at s w c.args.mask c.args.at c.args.columns c.args.rows.now c.requires.columns c.type_inv.mask.0 c.requires.mask
    (omega (arith, c.told-source, c.requires.rows)) (omega (arith, c.told-window, c.requires.inside)) c.requires.rows
    (λ k. c.fits-window k) c.requires.source k (omega (arith, c.loop-k-test.true)) in
    (omega (arith, c.loop-k.invariant.0, is, total_of_four_more row k), omega (arith, c.loop-k.invariant.1, c.sum_of_four-sum.ensures.small))

pub loop-j-preserved : goal.loop-j-preserved
loop-j-preserved c =
    let j : ℕ = c.loop-j.j in
    let s : List ℕ = c.args.source.now in
    let w : List ℕ = c.args.window.now in
    let row : ℕ → ℕ = λ j. total_of c.args.columns (λ i. abs_diff (get_or s (16 * j + i) 0) (get_or w (c.args.at + 48 * j + i) 0)) in
    let is : c.sad_of_lanes-sum.result ≡ row j =
    c.sad_of_lanes-sum.ensures.value ∙
    ap₂ sad_of c.load-first.ensures c.masked_row.ensures ∙
    row_at s w c.args.mask c.args.at c.args.columns c.args.rows.now c.requires.columns c.type_inv.mask.0 c.requires.mask
    (omega (arith, c.told-source, c.requires.rows)) (omega (arith, c.told-window, c.requires.inside)) c.requires.rows
    (λ k. c.fits-window k) c.requires.source j (16 * j) (c.args.at + 48 * j) (omega (arith, c.loop-j-test.true)) (omega arith) (omega arith) in
    (omega (arith, c.loop-j.invariant.0, is, total_more j row), omega (arith, c.loop-j.invariant.1, c.sad_of_lanes-sum.ensures.small))
