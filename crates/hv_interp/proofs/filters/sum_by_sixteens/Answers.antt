use Rattle.std.proofs.Common.{ℕ, ◌≡◌, ◌+◌, ◌-◌, ◌*◌, ◌/◌, ◌<◌, ◌∙◌, List, ℤ, pos, length, arith, ap, sym, to_z, of_z, slice_index_or}
use mir.Syntax.{w16}
use Rattle.std.proofs.lemmas.Int.{to_z-of_z}
use Rattle.hv_interp.specs.Filters.{strided_sum, place_of}
use Rattle.hv_interp.proofs.SumLemmas.{kept_32, sum_fits}
use Rattle.hv_interp.proofs.EightSumLemmas.{kept, small_fit, kept_small}
use Rattle.hv_interp.proofs.PlaceLemmas.{place_is, place_inside, place_ahead, HasFirst-set, HasFirst-put}
use Rattle.hv_interp.proofs.filters.sum_by_sixteens.Goals as goal

pub put_16_sums-requires-clause-range : goal.put_16_sums-requires-clause-range
put_16_sums-requires-clause-range g c = kept_small c.sixteen_sums-part.result c.sixteen_sums-part.ensures.range

pub loop-g-preserved : goal.loop-g-preserved
loop-g-preserved g c =
    let n : ℕ = c.args.size in
    let y : ℕ = c.loop-y.y in
    let stride : ℕ = c.args.stride in
    let taps : List ℤ = c.args.taps.now in
    let samples : List ℕ = c.args.samples.now in
    let x : ℕ = 16 * c.loop-g.g in
    let at : ℕ = y * n + x in
    let all : List ℤ = c.sixteen_sums-part.result in
    let part : List ℤ = c.put_16_sums.new.out in
    let is : part ≡ all = c.put_16_sums.ensures ∙ kept all (small_fit all c.sixteen_sums-part.ensures.range) in
    let count : length part ≡ 16 = ap (λ l. length l) is ∙ c.sixteen_sums-part.ensures.count in
    HasFirst-put (pos 0) at (at + 16 - at) (y * n + 16 * (c.loop-g.g + 1)) (λ k. strided_sum taps samples (place_of n stride k) 1) c.loop-g.sums part
    (omega (arith, place_inside n c.args.rows y x (omega arith) (omega arith))) c.loop-g.invariant
    (λ i below.
    let low : i < 16 = omega (arith, below, count) in
    ap (λ l. slice_index_or l i (pos 0)) is ∙ c.sixteen_sums-part.ensures.each i low ∙
    ap (λ p. strided_sum taps samples p 1) (place_ahead n stride y x i (omega (arith, low))))
    (omega (arith, count))

pub overflow_cast-sums : goal.overflow_cast-sums
overflow_cast-sums g c =
    rw (kept_32 c.sum_of_samples.result 33554432 c.sum_of_samples.ensures.result_most (omega arith))
    (sum_fits c.args.taps.now c.args.samples.now (c.loop-y.y * c.args.stride + (c.args.size / 16 * 16 + c.loop-r.r)) 1 c.sum_of_samples.result c.requires.light c.type_inv.samples c.sum_of_samples.ensures.value)

pub loop-r-preserved : goal.loop-r-preserved
loop-r-preserved g c =
    let n : ℕ = c.args.size in
    let y : ℕ = c.loop-y.y in
    let stride : ℕ = c.args.stride in
    let taps : List ℤ = c.args.taps.now in
    let samples : List ℕ = c.args.samples.now in
    let x : ℕ = n / 16 * 16 + c.loop-r.r in
    HasFirst-set (pos 0) (y * n + x) (y * n + (n / 16 * 16 + (c.loop-r.r + 1))) (λ k. strided_sum taps samples (place_of n stride k) 1) c.loop-r.sums _
    (omega (arith, place_inside n c.args.rows y x (omega arith) (omega arith))) c.loop-r.invariant
    (ap (λ z. to_z w16 (of_z w16 z)) (kept_32 c.sum_of_samples.result 33554432 c.sum_of_samples.ensures.result_most (omega arith)) ∙
    to_z-of_z w16 c.sum_of_samples.result
    (sum_fits taps samples (y * stride + x) 1 c.sum_of_samples.result c.requires.light c.type_inv.samples c.sum_of_samples.ensures.value) ∙
    c.sum_of_samples.ensures.value ∙
    ap (λ at. strided_sum taps samples at 1) (sym (place_is n stride y x (omega arith))))
    (omega arith)
