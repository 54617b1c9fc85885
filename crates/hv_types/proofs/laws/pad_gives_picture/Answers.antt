use Rattle.hv_types.proofs.VideoLemmas.{pad_gives_picture}
use Rattle.hv_types.proofs.laws.pad_gives_picture.Goals as goal

pub returns : goal.returns
returns c = pad_gives_picture
