use Rattle.std.proofs.Common.{rules, ℕ, ℤ, refl, arith, pos, ◌+◌, ◌*◌, ◌/◌, ◌%◌, ◌∙◌, to_z, of_z, w8}
use Rattle.std.specs.Int.RustNames.{FitsSigned}
use Rattle.std.proofs.lemmas.Int.{to_z-of_z}
use Rattle.std.proofs.lemmas.List.{length-set}
use Rattle.hv_interp.specs.Lanes.{lane}
use Rattle.hv_interp.proofs.PlaceLemmas.{HasFirst-set}
use Rattle.hv_interp.proofs.pairs.spread.Goals as goal

pub loop-k-preserved : goal.loop-k-preserved
loop-k-preserved g c =
    let k : ℕ = c.loop-k.k in
    let tap : ℤ = lane c.args.taps.now (k / 16 * 2 + k % 2) in
    let fits : FitsSigned w8 (lane c.args.taps.now (k / 16 * 2 + k % 2)) = search rules in (
      length-set c.loop-k.spread k (to_z w8 (of_z w8 tap)) ∙ c.loop-k.invariant.0,
      HasFirst-set (pos 0) k (k + 1) (λ i. lane c.args.taps.now (i / 16 * 2 + i % 2)) c.loop-k.spread _
          (omega (arith, c.loop-k.invariant.0)) c.loop-k.invariant.1 (to_z-of_z w8 tap fits) refl,
    )

pub returns : goal.returns
returns g c k below = c.loop-k.invariant.1 k (omega (arith, below))
