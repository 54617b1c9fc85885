use Rattle.std.proofs.Common.{arith, pos}
use Rattle.std.proofs.lemmas.List.{ext_get_or}
use Rattle.hv_interp.proofs.filters.widened.Goals as goal

pub returns : goal.returns
returns g c =
    ext_get_or (pos 0) c.loop-k.wide c.args.taps.now (omega (arith, c.loop-k.invariant.0, c.told-taps))
    (λ k below. c.loop-k.invariant.1 k (omega (arith, below, c.loop-k.invariant.0)))
