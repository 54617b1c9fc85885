use Rattle.hv_recon_model.proofs.BlankPictureLemmas.{blank_pictures_are_grey}
use Rattle.hv_recon_model.proofs.blank_laws.blank_pictures_are_grey.Goals as goal

pub returns : goal.returns
returns c = blank_pictures_are_grey
