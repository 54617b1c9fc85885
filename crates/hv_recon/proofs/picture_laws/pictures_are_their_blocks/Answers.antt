use Rattle.hv_recon.proofs.PictureLemmas.{picture_of_its_blocks}
use Rattle.hv_recon.proofs.picture_laws.pictures_are_their_blocks.Goals as goal

pub returns : goal.returns
returns c = picture_of_its_blocks
