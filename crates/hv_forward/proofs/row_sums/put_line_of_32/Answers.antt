use Rattle.std.proofs.Common.{arith, ℕ, ℤ, List, ◌≡◌, ◌+◌, ◌-◌, ◌*◌, ◌<◌, ◌≤◌, ◌+ℤ◌, ◌∙◌, ap, sym, refl, take, drop}
use Rattle.std.specs.Prelude.{◌-ℤ◌}
use Rattle.std.specs.Int.RustNames.{unsigned_abs}
use mir.Syntax.{w16}
use Rattle.hv_lemmas.specs.Clipping.{clip16}
use Rattle.hv_sample_model.specs.Quantisation.{rounded}
use Rattle.hv_lanes.specs.Lanes.{at, FourLanes, Numbers}
use Rattle.hv_forward.specs.Forward.{row_sum, row_mean, in_eights, folded_sum}
use Rattle.hv_lanes.proofs.FourLaneLemmas.{same_lanes}
use Rattle.hv_forward.proofs.FoldLemmas.{even_frequency}
use Rattle.hv_lanes.proofs.PartLemmas.{numbers_by, clip_fits}
use Rattle.hv_lanes.proofs.LaneStepLemmas.{passed}
use Rattle.hv_lanes.proofs.PartLemmas.{none_yet}
use Rattle.hv_lanes.proofs.PartLemmas.{HasFirst-put, Numbers-part, at_part}
use Rattle.hv_forward.proofs.RowLaneLemmas.{kept_eight}
use Rattle.hv_forward.proofs.RowSumLemmas.{own_lanes, more_lanes, part_lanes, part_numbers, sums_in_eights, outer_sum, inner_sum, odd_lanes_of_32, later_lanes, sum_of_32_small, mean_numbers, row_sum_same, row_weights_below, woven_is_all}
use Rattle.hv_lanes.proofs.FourLaneLemmas.{small_lanes, eight_means}
use Rattle.hv_forward.proofs.row_sums.put_line_of_32.Goals as goal

zero_plus : (j : ℕ) → 0 + j ≡ j
zero_plus j = omega arith

twelve : (j : ℕ) → 12 + j ≡ 8 + (4 + j)
twelve j = omega arith

pub eight_of-requires-clause-numbers : goal.eight_of-requires-clause-numbers
eight_of-requires-clause-numbers c = part_numbers 32 0 c.args.line.now _ c.requires.all (omega arith) c.requires.range refl

pub eight_of-requires-2-clause-numbers : goal.eight_of-requires-2-clause-numbers
eight_of-requires-2-clause-numbers c = part_numbers 32 24 c.args.line.now _ c.requires.all (omega arith) c.requires.range refl

pub eight_of-requires-3-clause-numbers : goal.eight_of-requires-3-clause-numbers
eight_of-requires-3-clause-numbers c = part_numbers 32 8 c.args.line.now _ c.requires.all (omega arith) c.requires.range refl

pub eight_of-requires-4-clause-numbers : goal.eight_of-requires-4-clause-numbers
eight_of-requires-4-clause-numbers c = part_numbers 32 16 c.args.line.now _ c.requires.all (omega arith) c.requires.range refl

pub put_row_of_16-requires : goal.put_row_of_16-requires
put_row_of_16-requires c =
    let f : ℕ → ℤ = at c.args.line.now in
    let table : List (List ℤ) = c.args.table.now in
    let part = λ (a : ℕ) (v : List ℤ). part_lanes 32 a 255 c.args.line.now v c.requires.all in
    let a₀ : ℕ → ℤ = λ x. f (0 + x) in
    let a₁ : ℕ → ℤ = λ x. f (8 + x) in
    let a₂ : ℕ → ℤ = λ x. f (16 + x) in
    let a₃ : ℕ → ℤ = λ x. f (24 + x) in
    let x₀ = kept_eight 255 a₀ c.eight_of.result (omega arith) (part 0 c.eight_of.result (omega arith) c.requires.range c.eight_of.ensures) in
    let x₃ = kept_eight 255 a₃ c.eight_of-2.result (omega arith) (part 24 c.eight_of-2.result (omega arith) c.requires.range c.eight_of-2.ensures) in
    let x₁ = kept_eight 255 a₁ c.eight_of-3.result (omega arith) (part 8 c.eight_of-3.result (omega arith) c.requires.range c.eight_of-3.ensures) in
    let x₂ = kept_eight 255 a₂ c.eight_of-4.result (omega arith) (part 16 c.eight_of-4.result (omega arith) c.requires.range c.eight_of-4.ensures) in
    let s₀ = kept_eight 510 (λ x. f (0 + x) +ℤ f (24 + (7 - x))) c.folded.result.0 (omega arith) (c.folded.ensures.sums 255 a₀ a₃ (omega arith) x₀ x₃) in
    let s₁ = kept_eight 510 (λ x. f (8 + x) +ℤ f (16 + (7 - x))) c.folded-2.result.0 (omega arith) (c.folded-2.ensures.sums 255 a₁ a₂ (omega arith) x₁ x₂) in
    (omega arith, (omega arith, (omega arith, (own_lanes 2040 _ _ (more_lanes 510 2040 _ _ (omega arith) s₀), (own_lanes 2040 _ _ (more_lanes 510 2040 _ _ (omega arith) s₁), (row_weights_below 4 5 table (omega arith) c.requires.weights, (c.requires.some, (c.requires.shift_most, refl))))))))

pub put_means-requires-clause-low : goal.put_means-requires-clause-low
put_means-requires-clause-low c =
    let f : ℕ → ℤ = at c.args.line.now in
    let table : List (List ℤ) = c.args.table.now in
    let part = λ (a : ℕ) (v : List ℤ). part_lanes 32 a 255 c.args.line.now v c.requires.all in
    let a₀ : ℕ → ℤ = λ x. f (0 + x) in
    let a₁ : ℕ → ℤ = λ x. f (8 + x) in
    let a₂ : ℕ → ℤ = λ x. f (16 + x) in
    let a₃ : ℕ → ℤ = λ x. f (24 + x) in
    let x₀ = kept_eight 255 a₀ c.eight_of.result (omega arith) (part 0 c.eight_of.result (omega arith) c.requires.range c.eight_of.ensures) in
    let x₃ = kept_eight 255 a₃ c.eight_of-2.result (omega arith) (part 24 c.eight_of-2.result (omega arith) c.requires.range c.eight_of-2.ensures) in
    let x₁ = kept_eight 255 a₁ c.eight_of-3.result (omega arith) (part 8 c.eight_of-3.result (omega arith) c.requires.range c.eight_of-3.ensures) in
    let x₂ = kept_eight 255 a₂ c.eight_of-4.result (omega arith) (part 16 c.eight_of-4.result (omega arith) c.requires.range c.eight_of-4.ensures) in
    let d₀ = kept_eight 510 (λ x. f (0 + x) -ℤ f (24 + (7 - x))) c.folded.result.1 (omega arith) (c.folded.ensures.differences 255 a₀ a₃ (omega arith) x₀ x₃) in
    let d₁ = kept_eight 510 (λ x. f (8 + x) -ℤ f (16 + (7 - x))) c.folded-2.result.1 (omega arith) (c.folded-2.ensures.differences 255 a₁ a₂ (omega arith) x₁ x₂) in
    let odd : ℕ → ℤ = λ u. row_sum 5 f (2 * u + 1) in
    let weights = c.requires.weights.odd 2 in
    let l₀ = odd_lanes_of_32 0 6 table f c.sixteen_products-a.result (omega arith) (weights 0 0 (omega arith) (omega arith) (omega arith)) (weights 0 1 (omega arith) (omega arith) (omega arith)) (weights 0 2 (omega arith) (omega arith) (omega arith)) (weights 0 3 (omega arith) (omega arith) (omega arith)) (c.sixteen_products-a.ensures 510 _ _ (omega arith) d₀ d₁) in
    let l₁ = odd_lanes_of_32 1 10 table f c.sixteen_products-b.result (omega arith) (weights 1 0 (omega arith) (omega arith) (omega arith)) (weights 1 1 (omega arith) (omega arith) (omega arith)) (weights 1 2 (omega arith) (omega arith) (omega arith)) (weights 1 3 (omega arith) (omega arith) (omega arith)) (c.sixteen_products-b.ensures 510 _ _ (omega arith) d₀ d₁) in
    let l₂ = odd_lanes_of_32 2 14 table f c.sixteen_products-c.result (omega arith) (weights 2 0 (omega arith) (omega arith) (omega arith)) (weights 2 1 (omega arith) (omega arith) (omega arith)) (weights 2 2 (omega arith) (omega arith) (omega arith)) (weights 2 3 (omega arith) (omega arith) (omega arith)) (c.sixteen_products-c.ensures 510 _ _ (omega arith) d₀ d₁) in
    let l₃ = odd_lanes_of_32 3 18 table f c.sixteen_products-d.result (omega arith) (weights 3 0 (omega arith) (omega arith) (omega arith)) (weights 3 1 (omega arith) (omega arith) (omega arith)) (weights 3 2 (omega arith) (omega arith) (omega arith)) (weights 3 3 (omega arith) (omega arith) (omega arith)) (c.sixteen_products-d.ensures 510 _ _ (omega arith) d₀ d₁) in
    let a = later_lanes odd 0 0 c.sixteen_products-a.result (λ j. refl) l₀ in
    let low = same_lanes (λ j. odd (0 + j)) odd c.sixteen_products-a.result (λ j below. ap odd (zero_plus j)) a in
    let high : FourLanes (λ j. odd (4 + j)) c.sixteen_products-b.result = l₁ in
    let later_low : FourLanes (λ j. odd (8 + j)) c.sixteen_products-c.result = l₂ in
    let later_high : FourLanes (λ j. odd (8 + (4 + j))) c.sixteen_products-d.result =
    same_lanes (λ j. odd (12 + j)) (λ j. odd (8 + (4 + j))) c.sixteen_products-d.result (λ j below. ap odd (twelve j)) l₃ in
    let few = sum_of_32_small f c.requires.range in
    let small : (u : ℕ) → u < 16 → unsigned_abs (odd u) ≤ 1073741824 = λ u below. few (2 * u + 1) (omega (arith, below)) in
    small_lanes odd c.sixteen_products-a.result (λ j below. small j (omega (arith, below))) low

pub put_means-requires-clause-high : goal.put_means-requires-clause-high
put_means-requires-clause-high c =
    let f : ℕ → ℤ = at c.args.line.now in
    let table : List (List ℤ) = c.args.table.now in
    let part = λ (a : ℕ) (v : List ℤ). part_lanes 32 a 255 c.args.line.now v c.requires.all in
    let a₀ : ℕ → ℤ = λ x. f (0 + x) in
    let a₁ : ℕ → ℤ = λ x. f (8 + x) in
    let a₂ : ℕ → ℤ = λ x. f (16 + x) in
    let a₃ : ℕ → ℤ = λ x. f (24 + x) in
    let x₀ = kept_eight 255 a₀ c.eight_of.result (omega arith) (part 0 c.eight_of.result (omega arith) c.requires.range c.eight_of.ensures) in
    let x₃ = kept_eight 255 a₃ c.eight_of-2.result (omega arith) (part 24 c.eight_of-2.result (omega arith) c.requires.range c.eight_of-2.ensures) in
    let x₁ = kept_eight 255 a₁ c.eight_of-3.result (omega arith) (part 8 c.eight_of-3.result (omega arith) c.requires.range c.eight_of-3.ensures) in
    let x₂ = kept_eight 255 a₂ c.eight_of-4.result (omega arith) (part 16 c.eight_of-4.result (omega arith) c.requires.range c.eight_of-4.ensures) in
    let d₀ = kept_eight 510 (λ x. f (0 + x) -ℤ f (24 + (7 - x))) c.folded.result.1 (omega arith) (c.folded.ensures.differences 255 a₀ a₃ (omega arith) x₀ x₃) in
    let d₁ = kept_eight 510 (λ x. f (8 + x) -ℤ f (16 + (7 - x))) c.folded-2.result.1 (omega arith) (c.folded-2.ensures.differences 255 a₁ a₂ (omega arith) x₁ x₂) in
    let odd : ℕ → ℤ = λ u. row_sum 5 f (2 * u + 1) in
    let weights = c.requires.weights.odd 2 in
    let l₀ = odd_lanes_of_32 0 6 table f c.sixteen_products-a.result (omega arith) (weights 0 0 (omega arith) (omega arith) (omega arith)) (weights 0 1 (omega arith) (omega arith) (omega arith)) (weights 0 2 (omega arith) (omega arith) (omega arith)) (weights 0 3 (omega arith) (omega arith) (omega arith)) (c.sixteen_products-a.ensures 510 _ _ (omega arith) d₀ d₁) in
    let l₁ = odd_lanes_of_32 1 10 table f c.sixteen_products-b.result (omega arith) (weights 1 0 (omega arith) (omega arith) (omega arith)) (weights 1 1 (omega arith) (omega arith) (omega arith)) (weights 1 2 (omega arith) (omega arith) (omega arith)) (weights 1 3 (omega arith) (omega arith) (omega arith)) (c.sixteen_products-b.ensures 510 _ _ (omega arith) d₀ d₁) in
    let l₂ = odd_lanes_of_32 2 14 table f c.sixteen_products-c.result (omega arith) (weights 2 0 (omega arith) (omega arith) (omega arith)) (weights 2 1 (omega arith) (omega arith) (omega arith)) (weights 2 2 (omega arith) (omega arith) (omega arith)) (weights 2 3 (omega arith) (omega arith) (omega arith)) (c.sixteen_products-c.ensures 510 _ _ (omega arith) d₀ d₁) in
    let l₃ = odd_lanes_of_32 3 18 table f c.sixteen_products-d.result (omega arith) (weights 3 0 (omega arith) (omega arith) (omega arith)) (weights 3 1 (omega arith) (omega arith) (omega arith)) (weights 3 2 (omega arith) (omega arith) (omega arith)) (weights 3 3 (omega arith) (omega arith) (omega arith)) (c.sixteen_products-d.ensures 510 _ _ (omega arith) d₀ d₁) in
    let a = later_lanes odd 0 0 c.sixteen_products-a.result (λ j. refl) l₀ in
    let low = same_lanes (λ j. odd (0 + j)) odd c.sixteen_products-a.result (λ j below. ap odd (zero_plus j)) a in
    let high : FourLanes (λ j. odd (4 + j)) c.sixteen_products-b.result = l₁ in
    let later_low : FourLanes (λ j. odd (8 + j)) c.sixteen_products-c.result = l₂ in
    let later_high : FourLanes (λ j. odd (8 + (4 + j))) c.sixteen_products-d.result =
    same_lanes (λ j. odd (12 + j)) (λ j. odd (8 + (4 + j))) c.sixteen_products-d.result (λ j below. ap odd (twelve j)) l₃ in
    let few = sum_of_32_small f c.requires.range in
    let small : (u : ℕ) → u < 16 → unsigned_abs (odd u) ≤ 1073741824 = λ u below. few (2 * u + 1) (omega (arith, below)) in
    small_lanes (λ j. odd (4 + j)) c.sixteen_products-b.result (λ j below. small (4 + j) (omega (arith, below))) high

pub put_means-requires-2-clause-low : goal.put_means-requires-2-clause-low
put_means-requires-2-clause-low c =
    let f : ℕ → ℤ = at c.args.line.now in
    let table : List (List ℤ) = c.args.table.now in
    let part = λ (a : ℕ) (v : List ℤ). part_lanes 32 a 255 c.args.line.now v c.requires.all in
    let a₀ : ℕ → ℤ = λ x. f (0 + x) in
    let a₁ : ℕ → ℤ = λ x. f (8 + x) in
    let a₂ : ℕ → ℤ = λ x. f (16 + x) in
    let a₃ : ℕ → ℤ = λ x. f (24 + x) in
    let x₀ = kept_eight 255 a₀ c.eight_of.result (omega arith) (part 0 c.eight_of.result (omega arith) c.requires.range c.eight_of.ensures) in
    let x₃ = kept_eight 255 a₃ c.eight_of-2.result (omega arith) (part 24 c.eight_of-2.result (omega arith) c.requires.range c.eight_of-2.ensures) in
    let x₁ = kept_eight 255 a₁ c.eight_of-3.result (omega arith) (part 8 c.eight_of-3.result (omega arith) c.requires.range c.eight_of-3.ensures) in
    let x₂ = kept_eight 255 a₂ c.eight_of-4.result (omega arith) (part 16 c.eight_of-4.result (omega arith) c.requires.range c.eight_of-4.ensures) in
    let d₀ = kept_eight 510 (λ x. f (0 + x) -ℤ f (24 + (7 - x))) c.folded.result.1 (omega arith) (c.folded.ensures.differences 255 a₀ a₃ (omega arith) x₀ x₃) in
    let d₁ = kept_eight 510 (λ x. f (8 + x) -ℤ f (16 + (7 - x))) c.folded-2.result.1 (omega arith) (c.folded-2.ensures.differences 255 a₁ a₂ (omega arith) x₁ x₂) in
    let odd : ℕ → ℤ = λ u. row_sum 5 f (2 * u + 1) in
    let weights = c.requires.weights.odd 2 in
    let l₀ = odd_lanes_of_32 0 6 table f c.sixteen_products-a.result (omega arith) (weights 0 0 (omega arith) (omega arith) (omega arith)) (weights 0 1 (omega arith) (omega arith) (omega arith)) (weights 0 2 (omega arith) (omega arith) (omega arith)) (weights 0 3 (omega arith) (omega arith) (omega arith)) (c.sixteen_products-a.ensures 510 _ _ (omega arith) d₀ d₁) in
    let l₁ = odd_lanes_of_32 1 10 table f c.sixteen_products-b.result (omega arith) (weights 1 0 (omega arith) (omega arith) (omega arith)) (weights 1 1 (omega arith) (omega arith) (omega arith)) (weights 1 2 (omega arith) (omega arith) (omega arith)) (weights 1 3 (omega arith) (omega arith) (omega arith)) (c.sixteen_products-b.ensures 510 _ _ (omega arith) d₀ d₁) in
    let l₂ = odd_lanes_of_32 2 14 table f c.sixteen_products-c.result (omega arith) (weights 2 0 (omega arith) (omega arith) (omega arith)) (weights 2 1 (omega arith) (omega arith) (omega arith)) (weights 2 2 (omega arith) (omega arith) (omega arith)) (weights 2 3 (omega arith) (omega arith) (omega arith)) (c.sixteen_products-c.ensures 510 _ _ (omega arith) d₀ d₁) in
    let l₃ = odd_lanes_of_32 3 18 table f c.sixteen_products-d.result (omega arith) (weights 3 0 (omega arith) (omega arith) (omega arith)) (weights 3 1 (omega arith) (omega arith) (omega arith)) (weights 3 2 (omega arith) (omega arith) (omega arith)) (weights 3 3 (omega arith) (omega arith) (omega arith)) (c.sixteen_products-d.ensures 510 _ _ (omega arith) d₀ d₁) in
    let a = later_lanes odd 0 0 c.sixteen_products-a.result (λ j. refl) l₀ in
    let low = same_lanes (λ j. odd (0 + j)) odd c.sixteen_products-a.result (λ j below. ap odd (zero_plus j)) a in
    let high : FourLanes (λ j. odd (4 + j)) c.sixteen_products-b.result = l₁ in
    let later_low : FourLanes (λ j. odd (8 + j)) c.sixteen_products-c.result = l₂ in
    let later_high : FourLanes (λ j. odd (8 + (4 + j))) c.sixteen_products-d.result =
    same_lanes (λ j. odd (12 + j)) (λ j. odd (8 + (4 + j))) c.sixteen_products-d.result (λ j below. ap odd (twelve j)) l₃ in
    let few = sum_of_32_small f c.requires.range in
    let small : (u : ℕ) → u < 16 → unsigned_abs (odd u) ≤ 1073741824 = λ u below. few (2 * u + 1) (omega (arith, below)) in
    small_lanes (λ j. odd (8 + j)) c.sixteen_products-c.result (λ j below. small (8 + j) (omega (arith, below))) later_low

pub put_means-requires-2-clause-high : goal.put_means-requires-2-clause-high
put_means-requires-2-clause-high c =
    let f : ℕ → ℤ = at c.args.line.now in
    let table : List (List ℤ) = c.args.table.now in
    let part = λ (a : ℕ) (v : List ℤ). part_lanes 32 a 255 c.args.line.now v c.requires.all in
    let a₀ : ℕ → ℤ = λ x. f (0 + x) in
    let a₁ : ℕ → ℤ = λ x. f (8 + x) in
    let a₂ : ℕ → ℤ = λ x. f (16 + x) in
    let a₃ : ℕ → ℤ = λ x. f (24 + x) in
    let x₀ = kept_eight 255 a₀ c.eight_of.result (omega arith) (part 0 c.eight_of.result (omega arith) c.requires.range c.eight_of.ensures) in
    let x₃ = kept_eight 255 a₃ c.eight_of-2.result (omega arith) (part 24 c.eight_of-2.result (omega arith) c.requires.range c.eight_of-2.ensures) in
    let x₁ = kept_eight 255 a₁ c.eight_of-3.result (omega arith) (part 8 c.eight_of-3.result (omega arith) c.requires.range c.eight_of-3.ensures) in
    let x₂ = kept_eight 255 a₂ c.eight_of-4.result (omega arith) (part 16 c.eight_of-4.result (omega arith) c.requires.range c.eight_of-4.ensures) in
    let d₀ = kept_eight 510 (λ x. f (0 + x) -ℤ f (24 + (7 - x))) c.folded.result.1 (omega arith) (c.folded.ensures.differences 255 a₀ a₃ (omega arith) x₀ x₃) in
    let d₁ = kept_eight 510 (λ x. f (8 + x) -ℤ f (16 + (7 - x))) c.folded-2.result.1 (omega arith) (c.folded-2.ensures.differences 255 a₁ a₂ (omega arith) x₁ x₂) in
    let odd : ℕ → ℤ = λ u. row_sum 5 f (2 * u + 1) in
    let weights = c.requires.weights.odd 2 in
    let l₀ = odd_lanes_of_32 0 6 table f c.sixteen_products-a.result (omega arith) (weights 0 0 (omega arith) (omega arith) (omega arith)) (weights 0 1 (omega arith) (omega arith) (omega arith)) (weights 0 2 (omega arith) (omega arith) (omega arith)) (weights 0 3 (omega arith) (omega arith) (omega arith)) (c.sixteen_products-a.ensures 510 _ _ (omega arith) d₀ d₁) in
    let l₁ = odd_lanes_of_32 1 10 table f c.sixteen_products-b.result (omega arith) (weights 1 0 (omega arith) (omega arith) (omega arith)) (weights 1 1 (omega arith) (omega arith) (omega arith)) (weights 1 2 (omega arith) (omega arith) (omega arith)) (weights 1 3 (omega arith) (omega arith) (omega arith)) (c.sixteen_products-b.ensures 510 _ _ (omega arith) d₀ d₁) in
    let l₂ = odd_lanes_of_32 2 14 table f c.sixteen_products-c.result (omega arith) (weights 2 0 (omega arith) (omega arith) (omega arith)) (weights 2 1 (omega arith) (omega arith) (omega arith)) (weights 2 2 (omega arith) (omega arith) (omega arith)) (weights 2 3 (omega arith) (omega arith) (omega arith)) (c.sixteen_products-c.ensures 510 _ _ (omega arith) d₀ d₁) in
    let l₃ = odd_lanes_of_32 3 18 table f c.sixteen_products-d.result (omega arith) (weights 3 0 (omega arith) (omega arith) (omega arith)) (weights 3 1 (omega arith) (omega arith) (omega arith)) (weights 3 2 (omega arith) (omega arith) (omega arith)) (weights 3 3 (omega arith) (omega arith) (omega arith)) (c.sixteen_products-d.ensures 510 _ _ (omega arith) d₀ d₁) in
    let a = later_lanes odd 0 0 c.sixteen_products-a.result (λ j. refl) l₀ in
    let low = same_lanes (λ j. odd (0 + j)) odd c.sixteen_products-a.result (λ j below. ap odd (zero_plus j)) a in
    let high : FourLanes (λ j. odd (4 + j)) c.sixteen_products-b.result = l₁ in
    let later_low : FourLanes (λ j. odd (8 + j)) c.sixteen_products-c.result = l₂ in
    let later_high : FourLanes (λ j. odd (8 + (4 + j))) c.sixteen_products-d.result =
    same_lanes (λ j. odd (12 + j)) (λ j. odd (8 + (4 + j))) c.sixteen_products-d.result (λ j below. ap odd (twelve j)) l₃ in
    let few = sum_of_32_small f c.requires.range in
    let small : (u : ℕ) → u < 16 → unsigned_abs (odd u) ≤ 1073741824 = λ u below. few (2 * u + 1) (omega (arith, below)) in
    small_lanes (λ j. odd (8 + (4 + j))) c.sixteen_products-d.result (λ j below. small (8 + (4 + j)) (omega (arith, below))) later_high

pub weave_eight-requires-clause-first_numbers : goal.weave_eight-requires-clause-first_numbers
weave_eight-requires-clause-first_numbers c =
    let even : Numbers c.put_row_of_16.new.out =
    numbers_by 16 (row_mean 4 (in_eights (at (passed w16 c.folded.result.0)) (at (passed w16 c.folded-2.result.0))) c.args.shift) c.put_row_of_16.new.out (omega arith) c.put_row_of_16.ensures
    (λ u. clip_fits (rounded (row_sum 4 (in_eights (at (passed w16 c.folded.result.0)) (at (passed w16 c.folded-2.result.0))) u) c.args.shift)) in
    Numbers-part 0 8 c.put_row_of_16.new.out even

pub weave_eight-requires-2-clause-first_numbers : goal.weave_eight-requires-2-clause-first_numbers
weave_eight-requires-2-clause-first_numbers c =
    let even : Numbers c.put_row_of_16.new.out =
    numbers_by 16 (row_mean 4 (in_eights (at (passed w16 c.folded.result.0)) (at (passed w16 c.folded-2.result.0))) c.args.shift) c.put_row_of_16.new.out (omega arith) c.put_row_of_16.ensures
    (λ u. clip_fits (rounded (row_sum 4 (in_eights (at (passed w16 c.folded.result.0)) (at (passed w16 c.folded-2.result.0))) u) c.args.shift)) in
    Numbers-part 8 8 c.put_row_of_16.new.out even

pub weave_eight-requires-clause-second_numbers : goal.weave_eight-requires-clause-second_numbers
weave_eight-requires-clause-second_numbers c =
    let f : ℕ → ℤ = at c.args.line.now in
    let table : List (List ℤ) = c.args.table.now in
    let part = λ (a : ℕ) (v : List ℤ). part_lanes 32 a 255 c.args.line.now v c.requires.all in
    let a₀ : ℕ → ℤ = λ x. f (0 + x) in
    let a₁ : ℕ → ℤ = λ x. f (8 + x) in
    let a₂ : ℕ → ℤ = λ x. f (16 + x) in
    let a₃ : ℕ → ℤ = λ x. f (24 + x) in
    let x₀ = kept_eight 255 a₀ c.eight_of.result (omega arith) (part 0 c.eight_of.result (omega arith) c.requires.range c.eight_of.ensures) in
    let x₃ = kept_eight 255 a₃ c.eight_of-2.result (omega arith) (part 24 c.eight_of-2.result (omega arith) c.requires.range c.eight_of-2.ensures) in
    let x₁ = kept_eight 255 a₁ c.eight_of-3.result (omega arith) (part 8 c.eight_of-3.result (omega arith) c.requires.range c.eight_of-3.ensures) in
    let x₂ = kept_eight 255 a₂ c.eight_of-4.result (omega arith) (part 16 c.eight_of-4.result (omega arith) c.requires.range c.eight_of-4.ensures) in
    let d₀ = kept_eight 510 (λ x. f (0 + x) -ℤ f (24 + (7 - x))) c.folded.result.1 (omega arith) (c.folded.ensures.differences 255 a₀ a₃ (omega arith) x₀ x₃) in
    let d₁ = kept_eight 510 (λ x. f (8 + x) -ℤ f (16 + (7 - x))) c.folded-2.result.1 (omega arith) (c.folded-2.ensures.differences 255 a₁ a₂ (omega arith) x₁ x₂) in
    let odd : ℕ → ℤ = λ u. row_sum 5 f (2 * u + 1) in
    let weights = c.requires.weights.odd 2 in
    let l₀ = odd_lanes_of_32 0 6 table f c.sixteen_products-a.result (omega arith) (weights 0 0 (omega arith) (omega arith) (omega arith)) (weights 0 1 (omega arith) (omega arith) (omega arith)) (weights 0 2 (omega arith) (omega arith) (omega arith)) (weights 0 3 (omega arith) (omega arith) (omega arith)) (c.sixteen_products-a.ensures 510 _ _ (omega arith) d₀ d₁) in
    let l₁ = odd_lanes_of_32 1 10 table f c.sixteen_products-b.result (omega arith) (weights 1 0 (omega arith) (omega arith) (omega arith)) (weights 1 1 (omega arith) (omega arith) (omega arith)) (weights 1 2 (omega arith) (omega arith) (omega arith)) (weights 1 3 (omega arith) (omega arith) (omega arith)) (c.sixteen_products-b.ensures 510 _ _ (omega arith) d₀ d₁) in
    let l₂ = odd_lanes_of_32 2 14 table f c.sixteen_products-c.result (omega arith) (weights 2 0 (omega arith) (omega arith) (omega arith)) (weights 2 1 (omega arith) (omega arith) (omega arith)) (weights 2 2 (omega arith) (omega arith) (omega arith)) (weights 2 3 (omega arith) (omega arith) (omega arith)) (c.sixteen_products-c.ensures 510 _ _ (omega arith) d₀ d₁) in
    let l₃ = odd_lanes_of_32 3 18 table f c.sixteen_products-d.result (omega arith) (weights 3 0 (omega arith) (omega arith) (omega arith)) (weights 3 1 (omega arith) (omega arith) (omega arith)) (weights 3 2 (omega arith) (omega arith) (omega arith)) (weights 3 3 (omega arith) (omega arith) (omega arith)) (c.sixteen_products-d.ensures 510 _ _ (omega arith) d₀ d₁) in
    let a = later_lanes odd 0 0 c.sixteen_products-a.result (λ j. refl) l₀ in
    let low = same_lanes (λ j. odd (0 + j)) odd c.sixteen_products-a.result (λ j below. ap odd (zero_plus j)) a in
    let high : FourLanes (λ j. odd (4 + j)) c.sixteen_products-b.result = l₁ in
    let later_low : FourLanes (λ j. odd (8 + j)) c.sixteen_products-c.result = l₂ in
    let later_high : FourLanes (λ j. odd (8 + (4 + j))) c.sixteen_products-d.result =
    same_lanes (λ j. odd (12 + j)) (λ j. odd (8 + (4 + j))) c.sixteen_products-d.result (λ j below. ap odd (twelve j)) l₃ in
    let few = sum_of_32_small f c.requires.range in
    let small : (u : ℕ) → u < 16 → unsigned_abs (odd u) ≤ 1073741824 = λ u below. few (2 * u + 1) (omega (arith, below)) in
    let means = eight_means odd c.args.shift c.sixteen_products-a.result c.sixteen_products-b.result c.put_means.new.out (λ u below. small u (omega (arith, below))) low high c.put_means.ensures in
    let later = eight_means (λ u. odd (8 + u)) c.args.shift c.sixteen_products-c.result c.sixteen_products-d.result c.put_means-2.new.out (λ u below. small (8 + u) (omega (arith, below))) later_low later_high c.put_means-2.ensures in
    mean_numbers odd c.args.shift c.put_means.new.out means.0 means.1

pub weave_eight-requires-2-clause-second_numbers : goal.weave_eight-requires-2-clause-second_numbers
weave_eight-requires-2-clause-second_numbers c =
    let f : ℕ → ℤ = at c.args.line.now in
    let table : List (List ℤ) = c.args.table.now in
    let part = λ (a : ℕ) (v : List ℤ). part_lanes 32 a 255 c.args.line.now v c.requires.all in
    let a₀ : ℕ → ℤ = λ x. f (0 + x) in
    let a₁ : ℕ → ℤ = λ x. f (8 + x) in
    let a₂ : ℕ → ℤ = λ x. f (16 + x) in
    let a₃ : ℕ → ℤ = λ x. f (24 + x) in
    let x₀ = kept_eight 255 a₀ c.eight_of.result (omega arith) (part 0 c.eight_of.result (omega arith) c.requires.range c.eight_of.ensures) in
    let x₃ = kept_eight 255 a₃ c.eight_of-2.result (omega arith) (part 24 c.eight_of-2.result (omega arith) c.requires.range c.eight_of-2.ensures) in
    let x₁ = kept_eight 255 a₁ c.eight_of-3.result (omega arith) (part 8 c.eight_of-3.result (omega arith) c.requires.range c.eight_of-3.ensures) in
    let x₂ = kept_eight 255 a₂ c.eight_of-4.result (omega arith) (part 16 c.eight_of-4.result (omega arith) c.requires.range c.eight_of-4.ensures) in
    let d₀ = kept_eight 510 (λ x. f (0 + x) -ℤ f (24 + (7 - x))) c.folded.result.1 (omega arith) (c.folded.ensures.differences 255 a₀ a₃ (omega arith) x₀ x₃) in
    let d₁ = kept_eight 510 (λ x. f (8 + x) -ℤ f (16 + (7 - x))) c.folded-2.result.1 (omega arith) (c.folded-2.ensures.differences 255 a₁ a₂ (omega arith) x₁ x₂) in
    let odd : ℕ → ℤ = λ u. row_sum 5 f (2 * u + 1) in
    let weights = c.requires.weights.odd 2 in
    let l₀ = odd_lanes_of_32 0 6 table f c.sixteen_products-a.result (omega arith) (weights 0 0 (omega arith) (omega arith) (omega arith)) (weights 0 1 (omega arith) (omega arith) (omega arith)) (weights 0 2 (omega arith) (omega arith) (omega arith)) (weights 0 3 (omega arith) (omega arith) (omega arith)) (c.sixteen_products-a.ensures 510 _ _ (omega arith) d₀ d₁) in
    let l₁ = odd_lanes_of_32 1 10 table f c.sixteen_products-b.result (omega arith) (weights 1 0 (omega arith) (omega arith) (omega arith)) (weights 1 1 (omega arith) (omega arith) (omega arith)) (weights 1 2 (omega arith) (omega arith) (omega arith)) (weights 1 3 (omega arith) (omega arith) (omega arith)) (c.sixteen_products-b.ensures 510 _ _ (omega arith) d₀ d₁) in
    let l₂ = odd_lanes_of_32 2 14 table f c.sixteen_products-c.result (omega arith) (weights 2 0 (omega arith) (omega arith) (omega arith)) (weights 2 1 (omega arith) (omega arith) (omega arith)) (weights 2 2 (omega arith) (omega arith) (omega arith)) (weights 2 3 (omega arith) (omega arith) (omega arith)) (c.sixteen_products-c.ensures 510 _ _ (omega arith) d₀ d₁) in
    let l₃ = odd_lanes_of_32 3 18 table f c.sixteen_products-d.result (omega arith) (weights 3 0 (omega arith) (omega arith) (omega arith)) (weights 3 1 (omega arith) (omega arith) (omega arith)) (weights 3 2 (omega arith) (omega arith) (omega arith)) (weights 3 3 (omega arith) (omega arith) (omega arith)) (c.sixteen_products-d.ensures 510 _ _ (omega arith) d₀ d₁) in
    let a = later_lanes odd 0 0 c.sixteen_products-a.result (λ j. refl) l₀ in
    let low = same_lanes (λ j. odd (0 + j)) odd c.sixteen_products-a.result (λ j below. ap odd (zero_plus j)) a in
    let high : FourLanes (λ j. odd (4 + j)) c.sixteen_products-b.result = l₁ in
    let later_low : FourLanes (λ j. odd (8 + j)) c.sixteen_products-c.result = l₂ in
    let later_high : FourLanes (λ j. odd (8 + (4 + j))) c.sixteen_products-d.result =
    same_lanes (λ j. odd (12 + j)) (λ j. odd (8 + (4 + j))) c.sixteen_products-d.result (λ j below. ap odd (twelve j)) l₃ in
    let few = sum_of_32_small f c.requires.range in
    let small : (u : ℕ) → u < 16 → unsigned_abs (odd u) ≤ 1073741824 = λ u below. few (2 * u + 1) (omega (arith, below)) in
    let means = eight_means odd c.args.shift c.sixteen_products-a.result c.sixteen_products-b.result c.put_means.new.out (λ u below. small u (omega (arith, below))) low high c.put_means.ensures in
    let later = eight_means (λ u. odd (8 + u)) c.args.shift c.sixteen_products-c.result c.sixteen_products-d.result c.put_means-2.new.out (λ u below. small (8 + u) (omega (arith, below))) later_low later_high c.put_means-2.ensures in
    mean_numbers (λ u. odd (8 + u)) c.args.shift c.put_means-2.new.out later.0 later.1

pub returns : goal.returns
returns c =
    let f : ℕ → ℤ = at c.args.line.now in
    let table : List (List ℤ) = c.args.table.now in
    let part = λ (a : ℕ) (v : List ℤ). part_lanes 32 a 255 c.args.line.now v c.requires.all in
    let a₀ : ℕ → ℤ = λ x. f (0 + x) in
    let a₁ : ℕ → ℤ = λ x. f (8 + x) in
    let a₂ : ℕ → ℤ = λ x. f (16 + x) in
    let a₃ : ℕ → ℤ = λ x. f (24 + x) in
    let x₀ = kept_eight 255 a₀ c.eight_of.result (omega arith) (part 0 c.eight_of.result (omega arith) c.requires.range c.eight_of.ensures) in
    let x₃ = kept_eight 255 a₃ c.eight_of-2.result (omega arith) (part 24 c.eight_of-2.result (omega arith) c.requires.range c.eight_of-2.ensures) in
    let x₁ = kept_eight 255 a₁ c.eight_of-3.result (omega arith) (part 8 c.eight_of-3.result (omega arith) c.requires.range c.eight_of-3.ensures) in
    let x₂ = kept_eight 255 a₂ c.eight_of-4.result (omega arith) (part 16 c.eight_of-4.result (omega arith) c.requires.range c.eight_of-4.ensures) in
    let s₀ = kept_eight 510 (λ x. f (0 + x) +ℤ f (24 + (7 - x))) c.folded.result.0 (omega arith) (c.folded.ensures.sums 255 a₀ a₃ (omega arith) x₀ x₃) in
    let s₁ = kept_eight 510 (λ x. f (8 + x) +ℤ f (16 + (7 - x))) c.folded-2.result.0 (omega arith) (c.folded-2.ensures.sums 255 a₁ a₂ (omega arith) x₁ x₂) in
    let d₀ = kept_eight 510 (λ x. f (0 + x) -ℤ f (24 + (7 - x))) c.folded.result.1 (omega arith) (c.folded.ensures.differences 255 a₀ a₃ (omega arith) x₀ x₃) in
    let d₁ = kept_eight 510 (λ x. f (8 + x) -ℤ f (16 + (7 - x))) c.folded-2.result.1 (omega arith) (c.folded-2.ensures.differences 255 a₁ a₂ (omega arith) x₁ x₂) in
    let odd : ℕ → ℤ = λ u. row_sum 5 f (2 * u + 1) in
    let weights = c.requires.weights.odd 2 in
    let l₀ = odd_lanes_of_32 0 6 table f c.sixteen_products-a.result (omega arith) (weights 0 0 (omega arith) (omega arith) (omega arith)) (weights 0 1 (omega arith) (omega arith) (omega arith)) (weights 0 2 (omega arith) (omega arith) (omega arith)) (weights 0 3 (omega arith) (omega arith) (omega arith)) (c.sixteen_products-a.ensures 510 _ _ (omega arith) d₀ d₁) in
    let l₁ = odd_lanes_of_32 1 10 table f c.sixteen_products-b.result (omega arith) (weights 1 0 (omega arith) (omega arith) (omega arith)) (weights 1 1 (omega arith) (omega arith) (omega arith)) (weights 1 2 (omega arith) (omega arith) (omega arith)) (weights 1 3 (omega arith) (omega arith) (omega arith)) (c.sixteen_products-b.ensures 510 _ _ (omega arith) d₀ d₁) in
    let l₂ = odd_lanes_of_32 2 14 table f c.sixteen_products-c.result (omega arith) (weights 2 0 (omega arith) (omega arith) (omega arith)) (weights 2 1 (omega arith) (omega arith) (omega arith)) (weights 2 2 (omega arith) (omega arith) (omega arith)) (weights 2 3 (omega arith) (omega arith) (omega arith)) (c.sixteen_products-c.ensures 510 _ _ (omega arith) d₀ d₁) in
    let l₃ = odd_lanes_of_32 3 18 table f c.sixteen_products-d.result (omega arith) (weights 3 0 (omega arith) (omega arith) (omega arith)) (weights 3 1 (omega arith) (omega arith) (omega arith)) (weights 3 2 (omega arith) (omega arith) (omega arith)) (weights 3 3 (omega arith) (omega arith) (omega arith)) (c.sixteen_products-d.ensures 510 _ _ (omega arith) d₀ d₁) in
    let a = later_lanes odd 0 0 c.sixteen_products-a.result (λ j. refl) l₀ in
    let low = same_lanes (λ j. odd (0 + j)) odd c.sixteen_products-a.result (λ j below. ap odd (zero_plus j)) a in
    let high : FourLanes (λ j. odd (4 + j)) c.sixteen_products-b.result = l₁ in
    let later_low : FourLanes (λ j. odd (8 + j)) c.sixteen_products-c.result = l₂ in
    let later_high : FourLanes (λ j. odd (8 + (4 + j))) c.sixteen_products-d.result =
    same_lanes (λ j. odd (12 + j)) (λ j. odd (8 + (4 + j))) c.sixteen_products-d.result (λ j below. ap odd (twelve j)) l₃ in
    let few = sum_of_32_small f c.requires.range in
    let small : (u : ℕ) → u < 16 → unsigned_abs (odd u) ≤ 1073741824 = λ u below. few (2 * u + 1) (omega (arith, below)) in
    let means = eight_means odd c.args.shift c.sixteen_products-a.result c.sixteen_products-b.result c.put_means.new.out (λ u below. small u (omega (arith, below))) low high c.put_means.ensures in
    let later = eight_means (λ u. odd (8 + u)) c.args.shift c.sixteen_products-c.result c.sixteen_products-d.result c.put_means-2.new.out (λ u below. small (8 + u) (omega (arith, below))) later_low later_high c.put_means-2.ensures in
    let mean : ℕ → ℤ = row_mean 5 f c.args.shift in
    let even : (k : ℕ) → k < 16 → at c.put_row_of_16.new.out k ≡ mean (2 * k) =
    λ k below.
    c.put_row_of_16.ensures k below ∙
    ap (λ z. clip16 (rounded z c.args.shift))
    (row_sum_same 4 k _ (folded_sum 16 f)
    (λ i inside.
    sums_in_eights f (at (passed w16 c.folded.result.0)) (at (passed w16 c.folded-2.result.0)) i
    (λ x less. s₀.each x less ∙ outer_sum f x less) (λ x less. s₁.each x less ∙ inner_sum f x less) inside) ∙
    sym (even_frequency 4 k f (omega arith) (omega arith) below)) in
    let first : (k : ℕ) → k < 16 → at c.weave_eight.new.out k ≡ mean (0 + k) =
    λ k below.
    let here : k ≡ 0 + k = omega arith in
    c.weave_eight.ensures.each k below ∙
    woven_is_all mean 8 k (take 8 c.put_row_of_16.new.out) c.put_means.new.out
    (λ u less. at_part 0 8 u c.put_row_of_16.new.out less ∙ ap (at c.put_row_of_16.new.out) (zero_plus u) ∙ even u (omega (arith, less)))
    means.1 below ∙ ap mean here in
    let second : (k : ℕ) → k < 16 → at c.weave_eight-2.new.out k ≡ mean (16 + k) =
    λ k below.
    c.weave_eight-2.ensures.each k below ∙
    woven_is_all (λ k. mean (16 + k)) 8 k (take 8 (drop 8 c.put_row_of_16.new.out)) c.put_means-2.new.out
    (λ u less.
    let there : 2 * (8 + u) ≡ 16 + 2 * u = omega arith in
    at_part 8 8 u c.put_row_of_16.new.out less ∙ even (8 + u) (omega (arith, less)) ∙ ap mean there)
    (λ u less.
    let there : 2 * (8 + u) + 1 ≡ 16 + (2 * u + 1) = omega arith in
    later.1 u less ∙ ap mean there)
    below in
    HasFirst-put 16 16 16 mean _ c.weave_eight-2.new.out (omega arith) (omega arith)
    (HasFirst-put 0 16 16 mean c.args.out.now c.weave_eight.new.out (omega arith) (omega arith) (none_yet mean c.args.out.now) first) second
