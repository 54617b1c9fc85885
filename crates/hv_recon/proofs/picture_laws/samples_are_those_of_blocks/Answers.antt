use Rattle.hv_recon.proofs.PictureLemmas.{samples_of_blocks}
use Rattle.hv_recon.proofs.picture_laws.samples_are_those_of_blocks.Goals as goal

pub returns : goal.returns
returns c = samples_of_blocks
