use Rattle.hv_types.proofs.VideoLemmas.{pictures_read_back}
use Rattle.hv_types.proofs.laws.pictures_read_back.Goals as goal

pub returns : goal.returns
returns c = pictures_read_back
