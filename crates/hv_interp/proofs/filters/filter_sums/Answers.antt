use Rattle.std.proofs.Common.{◌≡◌, ◌+◌, ◌-◌, ◌*◌, ◌∙◌, arith, ap, ℤ, to_z, of_z, w32}
use Rattle.std.proofs.Math.Nat.{add-mul, mul-le-mul_right}
use Rattle.std.specs.Int.{int_shr}
use Rattle.hv_inter_model.specs.Interpolation.{weighted_sample}
use Rattle.hv_interp.specs.Filters.{strided_total}
use Rattle.hv_interp.proofs.SumLemmas.{kept_32, shifted_small}
use Rattle.hv_interp.proofs.PlaceLemmas.{HasFirst-set}
use Rattle.hv_interp.proofs.filters.filter_sums.Goals as goal

pub sum_of_numbers-requires : goal.sum_of_numbers-requires
sum_of_numbers-requires g c =
    let e : c.args.rows + g.row.T - 1 ≡ c.args.rows + (g.row.T - 1) = omega (arith, c.requires.some) in
    let rows = ap (λ m. m * c.args.size) e ∙ add-mul c.args.rows (g.row.T - 1) c.args.size in
    let few = mul-le-mul_right c.args.size c.requires.rows in
    (omega (arith, c.requires.most), (c.requires.some, (c.requires.most, (omega (arith, few, c.requires.size), (omega arith, omega (arith, rows, c.requires.inside))))))

pub loop-k-preserved : goal.loop-k-preserved
loop-k-preserved g c =
    let r : ℤ = c.sum_of_numbers.result in
    HasFirst-set 0 c.loop-k.k (c.loop-k.k + 1) (λ k. weighted_sample (int_shr (strided_total c.args.taps.now c.args.sums.now k c.args.size) 6)) c.loop-k.out _
    (omega arith) c.loop-k.invariant (c.rounded.ensures ∙ ap weighted_sample
    (ap (λ v. to_z w32 (of_z w32 (int_shr v 6))) (kept_32 r 33554432 c.sum_of_numbers.ensures.result_most (omega arith)) ∙
    kept_32 (int_shr r 6) 33554432 (shifted_small r c.sum_of_numbers.ensures.result_most) (omega arith) ∙
    ap (λ z. int_shr z 6) c.sum_of_numbers.ensures.value)) (omega arith)
