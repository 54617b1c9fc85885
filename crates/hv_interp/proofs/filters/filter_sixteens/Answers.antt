use Rattle.std.proofs.Common.{ℕ, ◌≡◌, ◌+◌, ◌-◌, ◌*◌, ◌<◌, ◌≤◌, ◌∙◌, List, ℤ, arith, ap, sym, subst}
use Rattle.std.proofs.Math.Nat.{add-mul, mul-le-mul_right}
use Rattle.std.specs.Int.{int_shr}
use Rattle.std.specs.Int.RustNames.{unsigned_abs}
use Rattle.hv_inter_model.specs.Interpolation.{weighted_sample}
use Rattle.hv_interp.specs.Filters.{strided_total}
use Rattle.hv_interp.specs.Lanes.{lane}
use Rattle.hv_interp.proofs.RoundedTotalLemmas.{sums_kept}
use Rattle.hv_interp.proofs.PlaceLemmas.{HasFirst-put}
use borrow.Rule.Slice.PartMut.{put_mid}
use Rattle.hv_interp.proofs.filters.filter_sixteens.Goals as goal

pub eight_totals-first-requires : goal.eight_totals-first-requires
eight_totals-first-requires g c =
    let e : c.args.rows + g.row.T - 1 ≡ c.args.rows + (g.row.T - 1) = omega (arith, c.requires.some) in
    let rows = ap (λ m. m * c.args.size) e ∙ add-mul c.args.rows (g.row.T - 1) c.args.size in
    let few = mul-le-mul_right c.args.size c.requires.rows in
    (omega (arith, c.requires.most), (c.requires.some, (c.requires.most, (c.requires.even, (c.requires.light, (c.requires.numbers, (omega (arith, few, c.requires.size, c.requires.sixteens), (omega arith, omega (arith, rows, c.requires.inside, c.requires.sixteens)))))))))

pub eight_totals-second-requires : goal.eight_totals-second-requires
eight_totals-second-requires g c =
    let e : c.args.rows + g.row.T - 1 ≡ c.args.rows + (g.row.T - 1) = omega (arith, c.requires.some) in
    let rows = ap (λ m. m * c.args.size) e ∙ add-mul c.args.rows (g.row.T - 1) c.args.size in
    let few = mul-le-mul_right c.args.size c.requires.rows in
    (omega (arith, c.requires.most), (c.requires.some, (c.requires.most, (c.requires.even, (c.requires.light, (c.requires.numbers, (omega (arith, few, c.requires.size, c.requires.sixteens), (omega arith, omega (arith, rows, c.requires.inside, c.requires.sixteens)))))))))

pub put_totals-requires-clause-range : goal.put_totals-requires-clause-range
put_totals-requires-clause-range g c j =
    let totals : List ℤ = c.eight_totals-first.result in
    subst (λ l. unsigned_abs (lane l j) ≤ 3670016) (sym (sums_kept totals c.eight_totals-first.ensures.range)) (c.eight_totals-first.ensures.range j)

pub put_totals-requires-in-loop-g-clause-range : goal.put_totals-requires-in-loop-g-clause-range
put_totals-requires-in-loop-g-clause-range g c j =
    let totals : List ℤ = c.eight_totals-second.result in
    subst (λ l. unsigned_abs (lane l j) ≤ 3670016) (sym (sums_kept totals c.eight_totals-second.ensures.range)) (c.eight_totals-second.ensures.range j)

pub loop-g-preserved : goal.loop-g-preserved
loop-g-preserved g c =
    let at : ℕ = 16 * c.loop-g.g in
    let n : ℕ = c.args.size in
    let sample : ℕ → ℕ = λ k. weighted_sample (int_shr (strided_total c.args.taps.now c.args.sums.now k n) 6) in
    let first : List ℤ = c.eight_totals-first.result in
    let second : List ℤ = c.eight_totals-second.result in
    let part : List ℕ = c.put_totals.new.out in
    let next : List ℕ = c.put_totals-in-loop-g.new.out in
    let before = HasFirst-put 0 at (at + 8 - at) (at + 8) sample c.loop-g.out part
    (omega (arith, c.loop-g.auto.out, c.requires.room, c.requires.sixteens)) c.loop-g.invariant
    (λ i below.
    let low : i < 8 = omega (arith, below, c.put_totals.ensures.count) in
    c.put_totals.ensures.each i low ∙
    ap (λ l. weighted_sample (int_shr (lane l i) 6)) (sums_kept first c.eight_totals-first.ensures.range) ∙
    ap (λ z. weighted_sample (int_shr z 6)) (c.eight_totals-first.ensures.each i low))
    (omega (arith, c.put_totals.ensures.count)) in
    HasFirst-put 0 (at + 8) (at + 16 - (at + 8)) (16 * (c.loop-g.g + 1)) sample (put_mid at (at + 8 - at) c.loop-g.out part) next
    (omega (arith, c.loop-g.auto.out, c.requires.room, c.requires.sixteens)) before
    (λ i below.
    let low : i < 8 = omega (arith, below, c.put_totals-in-loop-g.ensures.count) in
    c.put_totals-in-loop-g.ensures.each i low ∙
    ap (λ l. weighted_sample (int_shr (lane l i) 6)) (sums_kept second c.eight_totals-second.ensures.range) ∙
    ap (λ z. weighted_sample (int_shr z 6)) (c.eight_totals-second.ensures.each i low))
    (omega (arith, c.put_totals-in-loop-g.ensures.count))
