use Rattle.std.proofs.Common.{◌≡◌, ℕ, List, ◌+◌, ◌*◌, get_or, take, drop, sum, ap, ◌∙◌, arith}
use Rattle.hv_kernel.proofs.FourLemmas.{four_in_run, sum_of_four_rows}
use Rattle.hv_kernel.proofs.quarter.sums_of_squares.Goals as goal

pub returns-clause-value : goal.returns-clause-value
returns-clause-value c = λ j below.
    let rows : List ℕ = c.args.rows.now in
    let width : ℕ = c.args.width in
    let column : ℕ = c.args.column in
    let of_row : ℕ → ℕ = λ y. sum (take 4 (drop (y * width + (column + 4 * j)) rows)) in
    let of_run : List ℕ → ℕ = λ run. sum (take 4 (drop (4 * j) run)) in
    let first : get_or c.sums_of_fours-first.result j 0 ≡ of_row 0 =
    c.sums_of_fours-first.ensures.value j below ∙ ap of_run c.load.ensures ∙
    four_in_run rows (column) j (0 * width + (column + 4 * j)) below (omega arith) in
    let second : get_or c.sums_of_fours-second.result j 0 ≡ of_row 1 =
    c.sums_of_fours-second.ensures.value j below ∙ ap of_run c.load-2.ensures ∙
    four_in_run rows (width + column) j (1 * width + (column + 4 * j)) below (omega arith) in
    let third : get_or c.sums_of_fours-third.result j 0 ≡ of_row 2 =
    c.sums_of_fours-third.ensures.value j below ∙ ap of_run c.load-3.ensures ∙
    four_in_run rows (2 * width + column) j (2 * width + (column + 4 * j)) below (omega arith) in
    let fourth : get_or c.sums_of_fours-fourth.result j 0 ≡ of_row 3 =
    c.sums_of_fours-fourth.ensures.value j below ∙ ap of_run c.load-4.ensures ∙
    four_in_run rows (3 * width + column) j (3 * width + (column + 4 * j)) below (omega arith) in
    rw (sum_of_four_rows of_row)
    (omega (arith, first, second, third, fourth, c.add.ensures.value j below, c.add-upper.ensures.value j below, c.add-lower.ensures.value j below))
