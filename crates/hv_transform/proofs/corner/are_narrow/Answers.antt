use Rattle.std.proofs.Common.{◌≡◌, ◌*◌, ◌+◌, ℕ, pos, arith, below_more, sym, ◌-◌}
use Rattle.hv_lanes.specs.Lanes.{at}
use Rattle.hv_lanes.proofs.ZeroLemmas.{part_of_0}
use Rattle.hv_transform.proofs.corner.are_narrow.Goals as goal

pub loop-y-preserved : goal.loop-y-preserved
loop-y-preserved g c =
    let n : ℕ = g.row.N in
    let y₀ : ℕ = c.loop-y.y in
    λ y x less far across.
    below_more (λ y. at c.args.block.now (y * n + x) ≡ pos 0) y₀
    (λ y below. c.loop-y.invariant y x below far across)
    (part_of_0 (y₀ * n + 8) (y₀ * n + n - (y₀ * n + 8)) c.args.block.now (sym c.if-have_other_than_0.ensures) (y₀ * n + x) (omega (arith, far)) (omega (arith, across)))
    y less
