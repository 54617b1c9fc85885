use Rattle.std.proofs.Common.{◌≡◌, ◌+◌, ◌*◌, arith, refl, sym, ap}
use Rattle.std.proofs.Math.Nat.{mul-le-mul_right}
use Rattle.hv_filter.proofs.JoinLemmas.{nothing_filled, filled_as, all_filled}
use Rattle.hv_filter.proofs.join.join_plane.Goals as goal

pub loop-y-init : goal.loop-y-init
loop-y-init g c =
    nothing_filled _ _ _ _ c.args.plane.now (omega arith) c.requires.whole refl refl

pub join_row-requires-clause-before : goal.join_row-requires-clause-before
join_row-requires-clause-before g c =
    let wide : c.args.plane.now.width ≡ c.loop-y.plane.width =
    sym c.loop-y.invariant.whole.wide in
    filled_as _ _ _ _ _ _ _ c.loop-y.plane (ap (λ k. c.loop-y.y * k) wide) wide
    (sym c.loop-y.invariant.whole.high) c.loop-y.invariant

pub loop-y-preserved : goal.loop-y-preserved
loop-y-preserved g c =
    let wide : c.loop-y.plane.width ≡ c.args.plane.now.width = c.loop-y.invariant.whole.wide in
    filled_as _ _ _ _ _ _ _ c.join_row.new.plane (ap (λ k. (c.loop-y.y + 1) * k) wide) wide
    c.loop-y.invariant.whole.high c.join_row.ensures

pub returns : goal.returns
returns g c =
    all_filled _ c.args.plane.now.width c.args.plane.now.height _ c.loop-y.plane
    (mul-le-mul_right c.args.plane.now.width (omega (arith, c.height-y-end.ensures.value)))
    c.loop-y.invariant
