use Rattle.std.proofs.Common.{ℕ, ◌+◌, ◌-◌, ◌*◌, ◌/◌, ◌<◌, ◌∙◌, List, ℤ, arith, ap, sym}
use Rattle.hv_inter_model.specs.Interpolation.{weighted_sample}
use Rattle.hv_interp.specs.Filters.{filtered, strided_sum}
use Rattle.hv_interp.specs.Lanes.{lane}
use Rattle.hv_interp.proofs.SumLemmas.{kept_32}
use Rattle.hv_interp.proofs.EightSumLemmas.{kept, small_fit, kept_small}
use Rattle.hv_interp.proofs.PlaceLemmas.{place_is, place_inside, place_ahead, HasFirst-set, HasFirst-put}
use Rattle.hv_interp.proofs.filters.filter_by_sixteens.Goals as goal

pub put_16_samples-requires-clause-range : goal.put_16_samples-requires-clause-range
put_16_samples-requires-clause-range g c = kept_small c.sixteen_sums-sums.result c.sixteen_sums-sums.ensures.range

pub loop-g-preserved : goal.loop-g-preserved
loop-g-preserved g c =
    let n : ℕ = c.args.size in
    let y : ℕ = c.loop-y.y in
    let stride : ℕ = c.args.stride in
    let taps : List ℤ = c.args.taps.now in
    let samples : List ℕ = c.args.samples.now in
    let x : ℕ = 16 * c.loop-g.g in
    let at : ℕ = y * n + x in
    let sums : List ℤ = c.sixteen_sums-sums.result in
    let part : List ℕ = c.put_16_samples.new.out in
    HasFirst-put 0 at (at + 16 - at) (y * n + 16 * (c.loop-g.g + 1)) (filtered taps samples stride 1 n) c.loop-g.out part
    (omega (arith, place_inside n n y x (omega arith) (omega arith))) c.loop-g.invariant
    (λ i below.
    let low : i < 16 = omega (arith, below, c.put_16_samples.ensures.count) in
    c.put_16_samples.ensures.each i low ∙
    ap (λ l. weighted_sample (lane l i)) (kept sums (small_fit sums c.sixteen_sums-sums.ensures.range)) ∙
    ap weighted_sample (c.sixteen_sums-sums.ensures.each i low ∙
    ap (λ p. strided_sum taps samples p 1) (place_ahead n stride y x i (omega (arith, low)))))
    (omega (arith, c.put_16_samples.ensures.count))

pub loop-r-preserved : goal.loop-r-preserved
loop-r-preserved g c =
    let n : ℕ = c.args.size in
    let y : ℕ = c.loop-y.y in
    let stride : ℕ = c.args.stride in
    let taps : List ℤ = c.args.taps.now in
    let samples : List ℕ = c.args.samples.now in
    let x : ℕ = n / 16 * 16 + c.loop-r.r in
    HasFirst-set 0 (y * n + x) (y * n + (n / 16 * 16 + (c.loop-r.r + 1))) (filtered taps samples stride 1 n) c.loop-r.out _
    (omega (arith, place_inside n n y x (omega arith) (omega arith))) c.loop-r.invariant
    (c.rounded.ensures ∙ ap weighted_sample
    (kept_32 c.sum_of_samples.result 33554432 c.sum_of_samples.ensures.result_most (omega arith) ∙ c.sum_of_samples.ensures.value ∙
    ap (λ at. strided_sum taps samples at 1) (sym (place_is n stride y x (omega arith))))) (omega arith)
