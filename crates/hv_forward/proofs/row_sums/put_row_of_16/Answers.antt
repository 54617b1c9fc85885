use Rattle.std.proofs.Common.{arith, ℕ, ℤ, List, ◌≡◌, ◌+◌, ◌-◌, ◌*◌, ◌<◌, ◌≤◌, ◌+ℤ◌, ◌∙◌, ap, sym, refl}
use Rattle.std.specs.Prelude.{◌-ℤ◌}
use Rattle.std.specs.Int.RustNames.{unsigned_abs}
use Rattle.hv_lemmas.specs.Clipping.{clip16}
use Rattle.hv_sample_model.specs.Quantisation.{rounded}
use Rattle.hv_lanes.specs.Passes.{HasFirst, table_row}
use Rattle.hv_lanes.specs.Lanes.{at}
use Rattle.hv_forward.specs.Forward.{quarter_sum, row_sum, row_mean, in_eights, folded_sum}
use Rattle.hv_lanes.proofs.FourLaneLemmas.{same_lanes}
use Rattle.hv_forward.proofs.FoldLemmas.{even_frequency}
use Rattle.hv_forward.proofs.RowLaneLemmas.{kept_eight}
use Rattle.hv_forward.proofs.RowSumLemmas.{own_lanes, odd_eight, eights_sum, eights_difference, eights_small, sum_of_16_small, mean_numbers, row_sum_same, row_weights_below, woven_is_all}
use Rattle.hv_lanes.proofs.FourLaneLemmas.{small_lanes, eight_means}
use Rattle.hv_forward.proofs.row_sums.put_row_of_16.Goals as goal

pub put_row_of_8-requires : goal.put_row_of_8-requires
put_row_of_8-requires g c =
    let f : ℕ → ℤ = at c.args.first in
    let h : ℕ → ℤ = at c.args.second in
    let x = kept_eight 2040 f c.args.first (omega arith) c.requires.first_numbers in
    let y = kept_eight 2040 h c.args.second (omega arith) c.requires.second_numbers in
    let folds = kept_eight 4080 _ c.folded.result.0 (omega arith) (c.folded.ensures.sums 2040 f h (omega arith) x y) in
    (omega arith, (omega arith, (omega arith, (own_lanes 4080 _ _ folds, (row_weights_below 3 4 c.args.table.now (omega arith) c.requires.weights, (c.requires.some, (c.requires.shift_most, refl)))))))

pub put_means-requires-clause-low : goal.put_means-requires-clause-low
put_means-requires-clause-low g c =
    let f : ℕ → ℤ = at c.args.first in
    let h : ℕ → ℤ = at c.args.second in
    let whole : ℕ → ℤ = in_eights f h in
    let x = kept_eight 2040 f c.args.first (omega arith) c.requires.first_numbers in
    let y = kept_eight 2040 h c.args.second (omega arith) c.requires.second_numbers in
    let table : List (List ℤ) = c.args.table.now in
    let d : ℕ → ℤ = λ x. f x -ℤ h (7 - x) in
    let differences = kept_eight 4080 d c.folded.result.1 (omega arith) (c.folded.ensures.differences 2040 f h (omega arith) x y) in
    let odd : ℕ → ℤ = λ u. row_sum 4 whole (2 * u + 1) in
    let low = same_lanes (λ j. quarter_sum (table_row table 2) d 0 j +ℤ quarter_sum (table_row table 3) d 1 j) odd c.eight_products-low.result
    (λ j below.
    let at_first : 4 * 0 + j ≡ j = omega arith in
    odd_eight 0 j (table_row table 2) (table_row table 3) whole d (omega arith) below (c.requires.weights.odd 1 0 0 (omega arith) (omega arith) (omega arith)) (c.requires.weights.odd 1 0 1 (omega arith) (omega arith) (omega arith)) (eights_difference f h) ∙ ap odd at_first)
    (c.eight_products-low.ensures 4080 d (omega arith) differences) in
    let high = same_lanes (λ j. quarter_sum (table_row table 4) d 0 j +ℤ quarter_sum (table_row table 5) d 1 j) (λ j. odd (4 + j)) c.eight_products-high.result
    (λ j below.
    odd_eight 1 j (table_row table 4) (table_row table 5) whole d (omega arith) below (c.requires.weights.odd 1 1 0 (omega arith) (omega arith) (omega arith)) (c.requires.weights.odd 1 1 1 (omega arith) (omega arith) (omega arith)) (eights_difference f h))
    (c.eight_products-high.ensures 4080 d (omega arith) differences) in
    let few = sum_of_16_small whole (eights_small 2040 c.args.first c.args.second c.requires.first_numbers c.requires.second_numbers) in
    let small : (u : ℕ) → u < 8 → unsigned_abs (odd u) ≤ 1073741824 = λ u below. few (2 * u + 1) (omega (arith, below)) in
    small_lanes odd c.eight_products-low.result (λ j below. small j (omega (arith, below))) low

pub put_means-requires-clause-high : goal.put_means-requires-clause-high
put_means-requires-clause-high g c =
    let f : ℕ → ℤ = at c.args.first in
    let h : ℕ → ℤ = at c.args.second in
    let whole : ℕ → ℤ = in_eights f h in
    let x = kept_eight 2040 f c.args.first (omega arith) c.requires.first_numbers in
    let y = kept_eight 2040 h c.args.second (omega arith) c.requires.second_numbers in
    let table : List (List ℤ) = c.args.table.now in
    let d : ℕ → ℤ = λ x. f x -ℤ h (7 - x) in
    let differences = kept_eight 4080 d c.folded.result.1 (omega arith) (c.folded.ensures.differences 2040 f h (omega arith) x y) in
    let odd : ℕ → ℤ = λ u. row_sum 4 whole (2 * u + 1) in
    let low = same_lanes (λ j. quarter_sum (table_row table 2) d 0 j +ℤ quarter_sum (table_row table 3) d 1 j) odd c.eight_products-low.result
    (λ j below.
    let at_first : 4 * 0 + j ≡ j = omega arith in
    odd_eight 0 j (table_row table 2) (table_row table 3) whole d (omega arith) below (c.requires.weights.odd 1 0 0 (omega arith) (omega arith) (omega arith)) (c.requires.weights.odd 1 0 1 (omega arith) (omega arith) (omega arith)) (eights_difference f h) ∙ ap odd at_first)
    (c.eight_products-low.ensures 4080 d (omega arith) differences) in
    let high = same_lanes (λ j. quarter_sum (table_row table 4) d 0 j +ℤ quarter_sum (table_row table 5) d 1 j) (λ j. odd (4 + j)) c.eight_products-high.result
    (λ j below.
    odd_eight 1 j (table_row table 4) (table_row table 5) whole d (omega arith) below (c.requires.weights.odd 1 1 0 (omega arith) (omega arith) (omega arith)) (c.requires.weights.odd 1 1 1 (omega arith) (omega arith) (omega arith)) (eights_difference f h))
    (c.eight_products-high.ensures 4080 d (omega arith) differences) in
    let few = sum_of_16_small whole (eights_small 2040 c.args.first c.args.second c.requires.first_numbers c.requires.second_numbers) in
    let small : (u : ℕ) → u < 8 → unsigned_abs (odd u) ≤ 1073741824 = λ u below. few (2 * u + 1) (omega (arith, below)) in
    small_lanes (λ j. odd (4 + j)) c.eight_products-high.result (λ j below. small (4 + j) (omega (arith, below))) high

pub weave_eight-requires-clause-second_numbers : goal.weave_eight-requires-clause-second_numbers
weave_eight-requires-clause-second_numbers g c =
    let f : ℕ → ℤ = at c.args.first in
    let h : ℕ → ℤ = at c.args.second in
    let whole : ℕ → ℤ = in_eights f h in
    let x = kept_eight 2040 f c.args.first (omega arith) c.requires.first_numbers in
    let y = kept_eight 2040 h c.args.second (omega arith) c.requires.second_numbers in
    let table : List (List ℤ) = c.args.table.now in
    let d : ℕ → ℤ = λ x. f x -ℤ h (7 - x) in
    let differences = kept_eight 4080 d c.folded.result.1 (omega arith) (c.folded.ensures.differences 2040 f h (omega arith) x y) in
    let odd : ℕ → ℤ = λ u. row_sum 4 whole (2 * u + 1) in
    let low = same_lanes (λ j. quarter_sum (table_row table 2) d 0 j +ℤ quarter_sum (table_row table 3) d 1 j) odd c.eight_products-low.result
    (λ j below.
    let at_first : 4 * 0 + j ≡ j = omega arith in
    odd_eight 0 j (table_row table 2) (table_row table 3) whole d (omega arith) below (c.requires.weights.odd 1 0 0 (omega arith) (omega arith) (omega arith)) (c.requires.weights.odd 1 0 1 (omega arith) (omega arith) (omega arith)) (eights_difference f h) ∙ ap odd at_first)
    (c.eight_products-low.ensures 4080 d (omega arith) differences) in
    let high = same_lanes (λ j. quarter_sum (table_row table 4) d 0 j +ℤ quarter_sum (table_row table 5) d 1 j) (λ j. odd (4 + j)) c.eight_products-high.result
    (λ j below.
    odd_eight 1 j (table_row table 4) (table_row table 5) whole d (omega arith) below (c.requires.weights.odd 1 1 0 (omega arith) (omega arith) (omega arith)) (c.requires.weights.odd 1 1 1 (omega arith) (omega arith) (omega arith)) (eights_difference f h))
    (c.eight_products-high.ensures 4080 d (omega arith) differences) in
    let few = sum_of_16_small whole (eights_small 2040 c.args.first c.args.second c.requires.first_numbers c.requires.second_numbers) in
    let small : (u : ℕ) → u < 8 → unsigned_abs (odd u) ≤ 1073741824 = λ u below. few (2 * u + 1) (omega (arith, below)) in
    let means = eight_means odd c.args.shift c.eight_products-low.result c.eight_products-high.result c.put_means.new.out small low high c.put_means.ensures in
    mean_numbers odd c.args.shift c.put_means.new.out means.0 means.1

pub returns : goal.returns
returns g c =
    let f : ℕ → ℤ = at c.args.first in
    let h : ℕ → ℤ = at c.args.second in
    let whole : ℕ → ℤ = in_eights f h in
    let x = kept_eight 2040 f c.args.first (omega arith) c.requires.first_numbers in
    let y = kept_eight 2040 h c.args.second (omega arith) c.requires.second_numbers in
    let table : List (List ℤ) = c.args.table.now in
    let d : ℕ → ℤ = λ x. f x -ℤ h (7 - x) in
    let differences = kept_eight 4080 d c.folded.result.1 (omega arith) (c.folded.ensures.differences 2040 f h (omega arith) x y) in
    let odd : ℕ → ℤ = λ u. row_sum 4 whole (2 * u + 1) in
    let low = same_lanes (λ j. quarter_sum (table_row table 2) d 0 j +ℤ quarter_sum (table_row table 3) d 1 j) odd c.eight_products-low.result
    (λ j below.
    let at_first : 4 * 0 + j ≡ j = omega arith in
    odd_eight 0 j (table_row table 2) (table_row table 3) whole d (omega arith) below (c.requires.weights.odd 1 0 0 (omega arith) (omega arith) (omega arith)) (c.requires.weights.odd 1 0 1 (omega arith) (omega arith) (omega arith)) (eights_difference f h) ∙ ap odd at_first)
    (c.eight_products-low.ensures 4080 d (omega arith) differences) in
    let high = same_lanes (λ j. quarter_sum (table_row table 4) d 0 j +ℤ quarter_sum (table_row table 5) d 1 j) (λ j. odd (4 + j)) c.eight_products-high.result
    (λ j below.
    odd_eight 1 j (table_row table 4) (table_row table 5) whole d (omega arith) below (c.requires.weights.odd 1 1 0 (omega arith) (omega arith) (omega arith)) (c.requires.weights.odd 1 1 1 (omega arith) (omega arith) (omega arith)) (eights_difference f h))
    (c.eight_products-high.ensures 4080 d (omega arith) differences) in
    let few = sum_of_16_small whole (eights_small 2040 c.args.first c.args.second c.requires.first_numbers c.requires.second_numbers) in
    let small : (u : ℕ) → u < 8 → unsigned_abs (odd u) ≤ 1073741824 = λ u below. few (2 * u + 1) (omega (arith, below)) in
    let means = eight_means odd c.args.shift c.eight_products-low.result c.eight_products-high.result c.put_means.new.out small low high c.put_means.ensures in
    let folds = kept_eight 4080 _ c.folded.result.0 (omega arith) (c.folded.ensures.sums 2040 f h (omega arith) x y) in
    let even : HasFirst 8 (λ u. row_mean 4 whole c.args.shift (2 * u)) c.put_row_of_8.new.out =
    λ k below.
    c.put_row_of_8.ensures k below ∙
    ap (λ z. clip16 (rounded z c.args.shift))
    (row_sum_same 3 k _ (folded_sum 8 whole) (λ i inside. folds.each i inside ∙ eights_sum f h i inside) ∙ sym (even_frequency 3 k whole (omega arith) (omega arith) below)) in
    λ k below. c.weave_eight.ensures.each k below ∙ woven_is_all (row_mean 4 whole c.args.shift) 8 k c.put_row_of_8.new.out c.put_means.new.out even means.1 below
