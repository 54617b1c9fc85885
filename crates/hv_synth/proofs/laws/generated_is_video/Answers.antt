use Rattle.hv_synth.proofs.GeneratorLemmas.{generated_is_video}
use Rattle.hv_synth.proofs.laws.generated_is_video.Goals as goal

pub returns : goal.returns
returns c = generated_is_video
