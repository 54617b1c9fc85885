use Rattle.hv_types.proofs.VideoLemmas.{bytes_are_split}
use Rattle.hv_types.proofs.laws.bytes_are_split.Goals as goal

pub returns : goal.returns
returns c = bytes_are_split
