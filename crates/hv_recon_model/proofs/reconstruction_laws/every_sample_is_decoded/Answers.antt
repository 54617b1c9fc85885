use Rattle.hv_recon_model.proofs.PictureLemmas.{every_sample}
use Rattle.hv_recon_model.proofs.reconstruction_laws.every_sample_is_decoded.Goals as goal

pub returns : goal.returns
returns c = every_sample
