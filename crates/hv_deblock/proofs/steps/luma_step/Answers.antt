use Rattle.hv_deblock.proofs.StepLemmas.{luma_sum_fits, luma_rounded_fits, luma_step_is, luma_step_most}
use Rattle.hv_deblock.proofs.steps.luma_step.Goals as goal

pub overflow_sub-result : goal.overflow_sub-result
overflow_sub-result c = luma_sum_fits c.args.first c.args.second c.requires.first c.requires.second

pub overflow_add-result : goal.overflow_add-result
overflow_add-result c = luma_rounded_fits c.args.first c.args.second c.requires.first c.requires.second

pub returns-clause-value : goal.returns-clause-value
returns-clause-value c = luma_step_is c.args.first c.args.second c.requires.first c.requires.second

pub returns-clause-most : goal.returns-clause-most
returns-clause-most c = luma_step_most c.args.first c.args.second c.requires.first c.requires.second
