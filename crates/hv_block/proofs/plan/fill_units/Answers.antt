use Rattle.std.proofs.Common.{arith, sym, subst}
use Rattle.std.proofs.lemmas.Grind.{common_steps}
use Rattle.std.specs.Prelude.{All}
use Rattle.hv_block.specs.Plans.{HasDepth}
use Rattle.hv_block.proofs.PlanLemmas.{All-with_units}
use Rattle.hv_block.proofs.plan.fill_units.Goals as goal

pub returns-clause-value : goal.returns-clause-value
returns-clause-value c = grind (arith, common_steps)

pub returns-clause-depths : goal.returns-clause-depths
returns-clause-depths c =
    subst (All HasDepth) (sym (returns-clause-value c))
    (All-with_units c.args.units.now c.args.first c.args.count c.args.unit c.requires.depths
    c.requires.depth)
