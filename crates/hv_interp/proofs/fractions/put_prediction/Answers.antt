use Rattle.std.proofs.Common.{◌∙◌}
use Rattle.hv_interp.proofs.FractionLemmas.{part_small, rounded_is}
use Rattle.hv_interp.proofs.fractions.put_prediction.Goals as goal

pub put_rounded-requires-clause-range : goal.put_rounded-requires-clause-range
put_rounded-requires-clause-range c = part_small c.args.sums.now c.requires.sums c.requires.range

pub returns-then-below-eq0-clause-each : goal.returns-then-below-eq0-clause-each
returns-then-below-eq0-clause-each c k inside =
    c.put_rounded.ensures.each k inside ∙ rounded_is c.args.sums.now c.args.below k c.if-below-eq0.true inside
