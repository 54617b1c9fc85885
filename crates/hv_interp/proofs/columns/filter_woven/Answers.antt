use Rattle.std.proofs.Common.{ℕ, ◌+◌, ◌-◌, ◌*◌, ◌<◌, ◌∙◌, List, ℤ, arith, ap}
use Rattle.std.proofs.Math.Nat.{mul-le-mul_right}
use Rattle.hv_inter_model.specs.Interpolation.{weighted_sample}
use Rattle.hv_interp.specs.Filters.{paired_place, placed_sum}
use Rattle.hv_interp.specs.Lanes.{lane}
use Rattle.hv_interp.proofs.ColumnLemmas.{whole_block, woven_inside}
use Rattle.hv_interp.proofs.EightSumLemmas.{kept, kept_small, small_fit}
use Rattle.hv_interp.proofs.PlaceLemmas.{HasFirst-put}
use borrow.Rule.Slice.PartMut.{put_mid}
use Rattle.hv_interp.proofs.columns.filter_woven.Goals as goal

pub sixteen_paired_sums-first-requires : goal.sixteen_paired_sums-first-requires
sixteen_paired_sums-first-requires g c =
    let few = mul-le-mul_right c.args.size c.requires.size in
    (omega (arith, c.requires.most), (c.requires.most, (c.requires.even, (c.requires.light, (c.requires.spread, (omega (arith, few, c.requires.size), (omega (arith, c.requires.size), (λ p more. woven_inside c.args.size g.row.T (64 * c.loop-g.g) p c.args.woven.now c.requires.even (omega arith) c.requires.inside more))))))))

pub sixteen_paired_sums-second-requires : goal.sixteen_paired_sums-second-requires
sixteen_paired_sums-second-requires g c =
    let few = mul-le-mul_right c.args.size c.requires.size in
    (omega (arith, c.requires.most), (c.requires.most, (c.requires.even, (c.requires.light, (c.requires.spread, (omega (arith, few, c.requires.size), (omega (arith, c.requires.size), (λ p more. woven_inside c.args.size g.row.T (64 * c.loop-g.g + 32) p c.args.woven.now c.requires.even (omega arith) c.requires.inside more))))))))

pub put_16_samples-requires-clause-range : goal.put_16_samples-requires-clause-range
put_16_samples-requires-clause-range g c = kept_small c.sixteen_paired_sums-first.result c.sixteen_paired_sums-first.ensures.range

pub put_16_samples-requires-in-loop-g-clause-range : goal.put_16_samples-requires-in-loop-g-clause-range
put_16_samples-requires-in-loop-g-clause-range g c = kept_small c.sixteen_paired_sums-second.result c.sixteen_paired_sums-second.ensures.range

pub loop-g-preserved : goal.loop-g-preserved
loop-g-preserved g c =
    let at : ℕ = 32 * c.loop-g.g in
    let step : ℕ = 4 * c.args.size in
    let taps : List ℤ = c.args.taps.now in
    let woven : List ℕ = c.args.woven.now in
    let sample : ℕ → ℕ = λ k. weighted_sample (placed_sum taps woven (paired_place (2 * k) step)) in
    let first : List ℤ = c.sixteen_paired_sums-first.result in
    let second : List ℤ = c.sixteen_paired_sums-second.result in
    let part : List ℕ = c.put_16_samples.new.out in
    let next : List ℕ = c.put_16_samples-in-loop-g.new.out in
    let before = HasFirst-put 0 at (at + 16 - at) (at + 16) sample c.loop-g.out part
    (omega (arith, c.loop-g.auto.out, c.requires.room)) c.loop-g.invariant
    (λ i below.
    let low : i < 16 = omega (arith, below, c.put_16_samples.ensures.count) in
    c.put_16_samples.ensures.each i low ∙
    ap (λ l. weighted_sample (lane l i)) (kept first (small_fit first c.sixteen_paired_sums-first.ensures.range)) ∙
    ap weighted_sample (c.sixteen_paired_sums-first.ensures.each i low ∙
    ap (λ p. placed_sum taps woven (paired_place p step)) (omega arith)))
    (omega (arith, c.put_16_samples.ensures.count)) in
    HasFirst-put 0 (at + 16) (at + 32 - (at + 16)) (32 * (c.loop-g.g + 1)) sample (put_mid at (at + 16 - at) c.loop-g.out part) next
    (omega (arith, c.loop-g.auto.out, c.requires.room)) before
    (λ i below.
    let low : i < 16 = omega (arith, below, c.put_16_samples-in-loop-g.ensures.count) in
    c.put_16_samples-in-loop-g.ensures.each i low ∙
    ap (λ l. weighted_sample (lane l i)) (kept second (small_fit second c.sixteen_paired_sums-second.ensures.range)) ∙
    ap weighted_sample (c.sixteen_paired_sums-second.ensures.each i low ∙
    ap (λ p. placed_sum taps woven (paired_place p step)) (omega arith)))
    (omega (arith, c.put_16_samples-in-loop-g.ensures.count))

pub returns : goal.returns
returns g c k below =
    c.loop-g.invariant k (omega (arith, below, whole_block c.args.size c.requires.sixteens))
