use Rattle.hv_recon_model.proofs.LocalityLemmas.{blocks_are_local}
use Rattle.hv_recon_model.proofs.locality_laws.blocks_are_local.Goals as goal

pub returns : goal.returns
returns c = blocks_are_local
