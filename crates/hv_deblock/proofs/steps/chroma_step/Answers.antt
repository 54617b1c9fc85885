use Rattle.hv_deblock.proofs.StepLemmas.{chroma_sum_fits, chroma_rounded_fits, chroma_step_is}
use Rattle.hv_deblock.proofs.steps.chroma_step.Goals as goal

pub overflow_add-result : goal.overflow_add-result
overflow_add-result c = chroma_sum_fits c.args.first c.args.second c.requires.first c.requires.second

pub overflow_add-result-2 : goal.overflow_add-result-2
overflow_add-result-2 c = chroma_rounded_fits c.args.first c.args.second c.requires.first c.requires.second

pub returns : goal.returns
returns c = chroma_step_is c.args.first c.args.second c.requires.first c.requires.second
