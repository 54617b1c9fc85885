use Rattle.hv_recon_model.proofs.WholeLocalityLemmas.{pictures_are_local}
use Rattle.hv_recon_model.proofs.locality_laws.pictures_are_local.Goals as goal

pub returns : goal.returns
returns c = pictures_are_local
