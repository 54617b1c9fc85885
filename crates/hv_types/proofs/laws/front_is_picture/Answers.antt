use Rattle.hv_types.proofs.VideoLemmas.{front_is_picture}
use Rattle.hv_types.proofs.laws.front_is_picture.Goals as goal

pub returns : goal.returns
returns c = front_is_picture
