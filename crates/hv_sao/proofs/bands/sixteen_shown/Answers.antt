use Rattle.std.proofs.Common.{arith}
use Rattle.hv_sao.proofs.BandLemmas.{sixteen_shown, sixteen_loaded}
use Rattle.hv_sao.proofs.bands.sixteen_shown.Goals as goal

pub returns-clause-samples : goal.returns-clause-samples
returns-clause-samples c = λ component raises lowers i inside.
    sixteen_shown component c.args.at c.args.position c.args.up c.args.down c.args.samples.now _ c.places-places.result
    c.taken.result c.taken-2.result c.raised_lowered.result raises lowers (λ k. (c.type_inv.samples k).fits)
    (sixteen_loaded c.args.at c.args.samples.now) c.places-places.ensures c.taken.ensures c.taken-2.ensures c.raised_lowered.ensures.lanes
    i (omega (arith, inside, c.raised_lowered.ensures.count))
