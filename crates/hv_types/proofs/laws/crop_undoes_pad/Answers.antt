use Rattle.hv_types.proofs.VideoLemmas.{crop_undoes_pad}
use Rattle.hv_types.proofs.laws.crop_undoes_pad.Goals as goal

pub returns : goal.returns
returns c = crop_undoes_pad
