use Rattle.hv_types.proofs.VideoLemmas.{bytes_are_kept}
use Rattle.hv_types.proofs.laws.bytes_are_kept.Goals as goal

pub returns : goal.returns
returns c = bytes_are_kept
