use Rattle.std.proofs.Common.{◌∙◌}
use Rattle.hv_syntax.specs.Blocks.{plan_of}
use Rattle.hv_syntax.proofs.LeafLemmas.{luma_fits, four_units}
use Rattle.hv_syntax.proofs.leaves.unit_levels.Goals as goal

pub transform_unit-requires-clause-inside : goal.transform_unit-requires-clause-inside
transform_unit-requires-clause-inside c =
    luma_fits c.args.size c.args.address c.if-size-lt3.true c.requires.inside

pub returns-clause-levels : goal.returns-clause-levels
returns-clause-levels c =
    c.quarters.ensures ∙
    four_units (plan_of c.args.block.now) c.args.size c.args.address c.if-size-lt3.false
    c.requires.size c.requires.inside
